use Rattle.message_value.proofs.SpelledValues.{members_reading}
use Rattle.message_value.proofs.reading.members_reading.Goals as goal

pub returns : goal.returns
returns c = members_reading
