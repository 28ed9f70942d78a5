use Rattle.bus_messages.proofs.TextArguments.{text_is}
use Rattle.bus_messages.proofs.laws.text_is_read.Goals as goal

pub returns : goal.returns
returns c = λ m types t values typed valued. text_is m types t values typed valued
