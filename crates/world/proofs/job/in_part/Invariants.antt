use Rattle.std.proofs.Common.{◌≡◌, ◌≤◌, take, length}
use Rattle.world.specs.Jobs.{in_part}
use Rattle.world.proofs.job.in_part.Given as goal

abbrev pub invariant-loop-number : goal.invariant-loop-number
invariant-loop-number l = (l.found.items ≡ in_part l.part (take l.number-index l.numbers)) × (length l.found.items ≤ l.number-index)
