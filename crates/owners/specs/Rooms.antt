-- Inner: the two sets of claims.
use Rattle.std.specs.Prelude.{◌≤◌, ◌+◌, length}
use Rattle.std.specs.List.{IsDistinct}
use Rattle.indexmap.specs.IndexSet.{IndexSet, IsEmpty, spare}
use Rattle.owners.specs.declared.claim.SlotClaim.{SlotClaim}
use Rattle.owners.specs.Registry.{max_claims}
use Rattle.owners.specs.SameClaim.{same_claim}

-- No claim is there twice, and each set has room for all claims.
pub record HasRooms {S : Type 0} (claims cleared : IndexSet SlotClaim S) : Type 0 where
  pub fits : length claims.keys ≤ max_claims
  pub room : max_claims ≤ length claims.keys + spare claims
  pub apart : IsDistinct same_claim claims.keys
  pub empty : IsEmpty cleared
  pub cleared_room : max_claims ≤ spare cleared
