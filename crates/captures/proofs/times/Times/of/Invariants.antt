use Rattle.std.proofs.Common.{◌≡◌, length}
use Rattle.captures.specs.Options.{usual, times_from}
use Rattle.captures.proofs.times.Times.of.Given as goal

abbrev pub invariant-loop-rest : goal.invariant-loop-rest
invariant-loop-rest l = times_from l.order l.times 0 l.rest ≡ times_from l.order usual 0 l.fn.options

abbrev pub decreases-loop-rest : goal.decreases-loop-rest
decreases-loop-rest l = length l.rest
