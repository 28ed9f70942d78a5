use Rattle.message_value.proofs.SpelledValues.{value_reading}
use Rattle.message_value.proofs.reading.value_reading.Goals as goal

pub returns : goal.returns
returns c = value_reading
