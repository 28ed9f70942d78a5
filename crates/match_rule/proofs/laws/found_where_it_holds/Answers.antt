use Rattle.match_rule.proofs.FixedFound.{AreFound-Holds}
use Rattle.match_rule.proofs.laws.found_where_it_holds.Goals as goal

pub returns : goal.returns
returns c = AreFound-Holds
