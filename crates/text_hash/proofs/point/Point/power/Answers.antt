use Rattle.std.proofs.Common.{◌<◌, subst, sym}
use Rattle.text_hash.specs.Hashes.{prime}
use Rattle.text_hash.proofs.Powers.{power-low}
use Rattle.text_hash.proofs.point.Point.power.Goals as goal

pub returns-clause-below : goal.returns-clause-below
returns-clause-below c = subst (λ n. n < prime) (sym (c.self.invariant.1 c.args.exponent c.requires)) (power-low c.self.inside.point c.args.exponent)
