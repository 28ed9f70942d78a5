use Rattle.std.proofs.Common.{◌≢◌, ◌<◌, ◌≤◌, ◌+◌, ℕ, get_or}
use Rattle.filter_compile.proofs.nested.part_start.Given as goal

-- no `/` from the start on, but for the last byte
abbrev pub invariant-loop-start : goal.invariant-loop-start
invariant-loop-start l = (l.start < l.end) × ((k : ℕ) → l.start ≤ k → k + 1 < l.end → get_or l.text k 0 ≢ 47)

abbrev pub decreases-loop-start : goal.decreases-loop-start
decreases-loop-start l = l.start
