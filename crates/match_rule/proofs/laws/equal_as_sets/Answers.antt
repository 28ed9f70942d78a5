use Rattle.match_rule.specs.Equality.{rule_decides}
use Rattle.match_rule.proofs.laws.equal_as_sets.Goals as goal

pub returns : goal.returns
returns c = rule_decides
