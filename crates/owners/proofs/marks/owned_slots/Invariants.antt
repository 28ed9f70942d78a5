use Rattle.std.proofs.Common.{◌≡◌, ℕ, drop, true}
use Rattle.std.specs.Prelude.{◌||◌, ◌&&◌, not}
use Rattle.summary.specs.Sets.{has_slot, IsSet}
use Rattle.owners.specs.Kept.{are_slots}
use Rattle.owners.proofs.MarkedSlots.{owns}
use Rattle.owners.proofs.marks.owned_slots.Given as goal

abbrev pub invariant-loop-claim : goal.invariant-loop-claim
invariant-loop-claim l = record {
  slots : are_slots (drop l.claim-index l.claims) ≡ true;
  set : IsSet l.owned;
  owned : (slot : ℕ) → (has_slot l.owned slot || (not (has_slot l.seen slot) && owns l.connection slot (drop l.claim-index l.claims))) ≡ owns l.connection slot l.claims;
}
