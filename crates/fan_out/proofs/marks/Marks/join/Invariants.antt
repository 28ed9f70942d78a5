use Rattle.std.proofs.Common.{◌≡◌, ◌↔◌, ◌⊎◌, ℕ, ◌<◌, true, Some}
use Rattle.std.specs.Prelude.{slice_get}
use Rattle.fan_out.proofs.marks.Marks.join.Given as goal

abbrev pub invariant-loop-place : goal.invariant-loop-place
invariant-loop-place l =
    (k : ℕ) → (slice_get l.self.places k ≡ Some true) ↔ ((slice_get l.fn.self.places k ≡ Some true) ⊎ ((k < l.place) × (slice_get l.other.places k ≡ Some true)))
