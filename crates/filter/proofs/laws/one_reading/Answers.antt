use Rattle.filter.proofs.Spelled.{ReadsAs-unique}
use Rattle.filter.proofs.laws.one_reading.Goals as goal

pub returns : goal.returns
returns c = ReadsAs-unique
