use Rattle.std.proofs.Common.{ℕ, ◌<◌, IfSome, slice_get}
use Rattle.jump_islands.specs.Draft.{LabelsAhead}
use Rattle.jump_islands.proofs.draft.Draft.is_closed.Given as goal

abbrev pub invariant-loop-place : goal.invariant-loop-place
invariant-loop-place l = (p : ℕ) → p < l.place → IfSome (slice_get l.self.lines p) (LabelsAhead l.self p)
