use Rattle.std.proofs.Common.{ℕ, ◌-◌, ◌<◌, ◌≤◌, length, get_or, List}
use Rattle.program_table.specs.Connections.{numbers_of}
use Rattle.program_table.proofs.connections.lower_bound.Given as goal

-- what stands before low is below the number, and what stands from high on isn't
pub record IsBetween (numbers : List ℕ) (number low high : ℕ) : Type 0 where
  pub ordered : low ≤ high
  pub within : high ≤ length numbers
  pub below : (k : ℕ) → k < low → get_or numbers k 0 < number
  pub above : (k : ℕ) → high ≤ k → k < length numbers → number ≤ get_or numbers k 0

abbrev pub invariant-loop-low : goal.invariant-loop-low
invariant-loop-low g l = IsBetween (numbers_of l.list) l.number l.low l.high

abbrev pub decreases-loop-low : goal.decreases-loop-low
decreases-loop-low g l = l.high - l.low
