use Rattle.std.proofs.Common.{◌≡◌, ◌≤◌, ◌+◌, take, length}
use Rattle.std.specs.List.{IsDistinct}
use Rattle.indexmap.specs.IndexSet.{spare}
use Rattle.owners.specs.Kept.{slot_with_flags}
use Rattle.owners.specs.SameClaim.{same_claim}
use Rattle.owners.proofs.claim_list.put_flagged.Given as goal

abbrev pub invariant-loop-claim : goal.invariant-loop-claim
invariant-loop-claim l = record {
  claims : l.staying.keys ≡ slot_with_flags l.flagged.slot l.flagged.connection l.flagged.flags (take l.claim-index l.claims);
  room : 4096 ≤ length l.staying.keys + spare l.staying;
  apart : IsDistinct same_claim l.staying.keys;
}
