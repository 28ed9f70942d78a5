use Rattle.std.proofs.Common.{◌≡◌, ℕ, drop, true}
use Rattle.std.specs.Prelude.{◌||◌}
use Rattle.std.specs.List.{list_any}
use Rattle.summary.specs.Sets.{has_slot}
use Rattle.owners.specs.Kept.{is_on_slot, are_slots}
use Rattle.owners.proofs.marks.claimed_slots.Given as goal

abbrev pub invariant-loop-claim : goal.invariant-loop-claim
invariant-loop-claim l = record {
  slots : are_slots (drop l.claim-index l.claims) ≡ true;
  marked : (slot : ℕ) → (has_slot l.claimed slot || list_any (is_on_slot slot) (drop l.claim-index l.claims)) ≡ list_any (is_on_slot slot) l.claims;
}
