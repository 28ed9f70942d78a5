use Rattle.std.proofs.Common.{◌≡◌, drop}
use Rattle.std.specs.List.{find}
use Rattle.owners.specs.Kept.{is_on_slot, slot_without}
use Rattle.owners.proofs.claim.first_other.Given as goal

abbrev pub invariant-loop-claim : goal.invariant-loop-claim
invariant-loop-claim l = find (is_on_slot l.slot) (slot_without l.slot l.connection (drop l.claim-index l.claims)) ≡ find (is_on_slot l.slot) (slot_without l.slot l.connection l.claims)
