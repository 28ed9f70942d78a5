use Rattle.std.proofs.Common.{◌≡◌, ◌<◌, ◌≤◌, ℕ, length}
use Rattle.std.specs.Prelude.{slice_get}
use Rattle.summary.specs.Sets.{has_slot}
use Rattle.owners.specs.Kept.{kept_at}
use Rattle.owners.proofs.holding.let_go.Given as goal

abbrev pub invariant-loop-i : goal.invariant-loop-i
invariant-loop-i l = record {
  size : length l.slots.items ≡ length l.fn.slots.items;
  before : (slot : ℕ) → slot < l.i → slice_get l.slots.items slot ≡ kept_at (has_slot l.claimed slot) (slice_get l.fn.slots.items slot);
  after : (slot : ℕ) → l.i ≤ slot → slice_get l.slots.items slot ≡ slice_get l.fn.slots.items slot;
}
