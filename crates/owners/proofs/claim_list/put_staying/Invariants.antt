use Rattle.std.proofs.Common.{◌≡◌, ◌≤◌, ◌+◌, take, length}
use Rattle.std.specs.Prelude.{filter, not}
use Rattle.std.specs.List.{IsDistinct}
use Rattle.indexmap.specs.IndexSet.{spare}
use Rattle.owners.specs.declared.claim.SlotClaim.{SlotClaim}
use Rattle.owners.specs.Kept.{is_leaving}
use Rattle.owners.specs.SameClaim.{same_claim}
use Rattle.owners.proofs.claim_list.put_staying.Given as goal

abbrev pub invariant-loop-claim : goal.invariant-loop-claim
invariant-loop-claim l = record {
  claims : l.staying.keys ≡ filter (λ (c : SlotClaim). not (is_leaving l.slot l.connection c)) (take l.claim-index l.claims);
  room : 4096 ≤ length l.staying.keys + spare l.staying;
  apart : IsDistinct same_claim l.staying.keys;
}
