use Rattle.match_rule.proofs.Spelled.{ReadsAs-unique}
use Rattle.match_rule.proofs.laws.one_reading.Goals as goal

pub returns : goal.returns
returns c = ReadsAs-unique
