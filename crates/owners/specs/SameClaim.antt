-- Inner: claims of one connection on one name.
use Rattle.std.specs.Prelude.{◌≡◌, ◌++◌, Bool, true}
use Rattle.std.specs.Cmp.{IsEquivalence, and_equiv, on_equiv, back_equiv, nat_eq_equiv, unsigned_Decides}
use Rattle.std.specs.Hash as fed
use Rattle.std.specs.Hash.{on_Alike, same_Alike, and-Alike}
use Rattle.std.proofs.Common.{sym}
use Rattle.owners.specs.declared.claim.SlotClaim.{SlotClaim}
use Rattle.owners.specs.Kept.{is_slot_claim}

-- both are the same connection's on the same name
abbrev pub same_claim : SlotClaim → SlotClaim → Bool
same_claim claim other = is_slot_claim claim.slot claim.connection other

pub same_claim_equiv : IsEquivalence same_claim
same_claim_equiv = back_equiv (and_equiv (on_equiv (λ (c : SlotClaim). c.slot) nat_eq_equiv) (on_equiv (λ (c : SlotClaim). c.connection) nat_eq_equiv))

-- those are hashed alike
pub same_claim_alike : (claim other : SlotClaim) → same_claim claim other ≡ true → fed.u16 claim.slot ++ fed.u64 claim.connection ≡ fed.u16 other.slot ++ fed.u64 other.connection
same_claim_alike claim other e =
    sym ((and-Alike (on_Alike (λ (c : SlotClaim). c.slot) (same_Alike fed.u16 unsigned_Decides)) (on_Alike (λ (c : SlotClaim). c.connection) (same_Alike fed.u64 unsigned_Decides))).fed other claim e)
