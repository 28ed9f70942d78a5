use Rattle.bus_messages.proofs.TextArguments.{text_there}
use Rattle.bus_messages.proofs.laws.text_is_there.Goals as goal

pub returns : goal.returns
returns c = λ bytes m valid is. text_there c.one_reading.ensures bytes m valid is
