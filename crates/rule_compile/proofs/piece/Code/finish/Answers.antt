use Rattle.rule_compile.proofs.Sound.{well_made}
use Rattle.rule_compile.proofs.piece.Code.finish.Goals as goal

pub returns-clause-made : goal.returns-clause-made
returns-clause-made c = well_made _ c.self.invariant
