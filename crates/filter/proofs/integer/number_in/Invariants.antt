use Rattle.std.proofs.Common.{◌≡◌, ◌<◌, ◌^◌, drop}
use Rattle.filter.specs.Integers.{number_in}
use Rattle.filter.proofs.Numbers.{number_after}
use Rattle.filter.proofs.integer.number_in.Given as goal

abbrev pub invariant-loop-digit : goal.invariant-loop-digit
invariant-loop-digit l = (number_after l.base l.number (drop l.digit-index l.digits) ≡ number_in l.base l.digits) × (l.number < 2 ^ 64)
