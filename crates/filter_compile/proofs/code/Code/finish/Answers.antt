use Rattle.rule_compile.proofs.Sound.{well_made}
use Rattle.filter_compile.proofs.code.Code.finish.Goals as goal

pub returns-clause-made : goal.returns-clause-made
returns-clause-made c = well_made _ c.self-2.invariant
