use Rattle.std.proofs.Common.{arith}
use Rattle.std.proofs.Math.Nat.{one-le-pow}
use Rattle.captures.proofs.options.units_of.Goals as goal

pub returns-then-byte-le-MAX_DECIMAL-clause-some : goal.returns-then-byte-le-MAX_DECIMAL-clause-some
returns-then-byte-le-MAX_DECIMAL-clause-some c = omega (arith, one-le-pow c.args.byte 10 (omega arith), c.pow.ensures)
