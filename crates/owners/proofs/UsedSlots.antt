-- After a request each slot has a claim or a rule still.
use Rattle.std.specs.Prelude.{◌≡◌, ◌<◌, ℕ, Bool, true, false, not, List, [], ◌∷◌, ◌++◌, Option, Some, None, find, length, slice_get, ◌&&◌, ◌==◌, ◌⊎◌, if◌then◌else◌}
use Rattle.std.specs.List.{list_any}
use Rattle.std.proofs.Common.{refl, sym, ap, ◌∙◌, inl, inr}
use Rattle.std.proofs.lemmas.Bool.{false≢true, eqb-true, eq-eqb, and_right, or_left, or_right}
use Rattle.owners.specs.declared.holding.Holding.{Holding}
use Rattle.owners.specs.declared.claim.SlotClaim.{SlotClaim}
use Rattle.owners.specs.declared.step.Step.{Step}
use Rattle.owners.specs.declared.step.Step.TheVariants as steps
use Rattle.owners.specs.Queues.{has_flag, do_not_queue}
use Rattle.owners.specs.Registry.{is_unused}
use Rattle.owners.specs.Kept.{is_on_slot, is_by, is_slot_claim, slot_without, slot_with_flags, claim_put, without_owner, step_of, step_done, AreUsed}
use Rattle.owners.proofs.Lists.{Each-always, any-map, find-filter, any-from_find, any-from_none, any-both, any-filter, any-append, any-append_last}
use Rattle.owners.proofs.Placed.{held_slots, read_held}
use Rattle.owners.proofs.Requested.{step_for}

on_flagged : (k flags : ℕ) (c : SlotClaim) (b : Bool) → is_on_slot k (if b then record c { flags = flags } else c) ≡ is_on_slot k c
on_flagged k flags c true = refl
on_flagged k flags c false = refl

any_flagged : (k slot connection flags : ℕ) (claims : List SlotClaim) → list_any (is_on_slot k) (slot_with_flags slot connection flags claims) ≡ list_any (is_on_slot k) claims
any_flagged k slot connection flags claims =
    any-map (is_on_slot k) (is_on_slot k) (λ (c : SlotClaim). if is_slot_claim slot connection c then record c { flags = flags } else c) claims
    (Each-always (λ (c : SlotClaim). is_on_slot k (if is_slot_claim slot connection c then record c { flags = flags } else c) ≡ is_on_slot k c) (λ c. on_flagged k flags c (is_slot_claim slot connection c)) claims)

-- a claim on another slot isn't taken away
other_by : (k slot connection : ℕ) → (k ≡ slot → ⊥) → (c : SlotClaim) → is_on_slot k c ≡ true → (b : Bool) → (c.slot == slot) ≡ b → not (b && (c.connection == connection)) ≡ true
other_by k slot connection n c e true f = absurd (n (sym (eqb-true c.slot k e) ∙ eqb-true c.slot slot f))
other_by k slot connection n c e false f = refl

other_slot : (k slot connection : ℕ) → (k ≡ slot → ⊥) → (c : SlotClaim) → is_on_slot k c ≡ true → not (is_slot_claim slot connection c) ≡ true
other_slot k slot connection n c e = other_by k slot connection n c e (c.slot == slot) refl

any_without : (k slot connection : ℕ) → (k ≡ slot → ⊥) → (claims : List SlotClaim) → list_any (is_on_slot k) claims ≡ true → list_any (is_on_slot k) (slot_without slot connection claims) ≡ true
any_without k slot connection n claims h =
    any-filter (is_on_slot k) (λ (c : SlotClaim). not (is_slot_claim slot connection c)) (other_slot k slot connection n) claims h

any_leaving : (k slot : ℕ) → (k ≡ slot → ⊥) → (claims : List SlotClaim) (leaving : Option ℕ) → list_any (is_on_slot k) claims ≡ true → list_any (is_on_slot k) (without_owner leaving slot claims) ≡ true
any_leaving k slot n claims None h = h
any_leaving k slot n claims (Some owner) h = any_without k slot owner n claims h

put_stays : (claim : SlotClaim) (claims : List SlotClaim) (k : ℕ) (waits : Bool) → list_any (is_on_slot k) claims ≡ true → list_any (is_on_slot k) (if waits then slot_with_flags claim.slot claim.connection claim.flags claims else claims ++ claim ∷ []) ≡ true
put_stays claim claims k true h = any_flagged k claim.slot claim.connection claim.flags claims ∙ h
put_stays claim claims k false h = any-append (is_on_slot k) claims (claim ∷ []) h

-- another slot stays claimed
any_stays : (step : Step) (claim : SlotClaim) (claims : List SlotClaim) (k : ℕ) → (k ≡ claim.slot → ⊥) → list_any (is_on_slot k) claims ≡ true → list_any (is_on_slot k) (step_done step claim claims) ≡ true
any_stays steps.Put claim claims k n h = put_stays claim claims k (list_any (is_slot_claim claim.slot claim.connection) claims) h
any_stays steps.Remove claim claims k n h = any_without k claim.slot claim.connection n claims h
any_stays (steps.Replace leaving) claim claims k n h =
    or_right (is_on_slot k claim) (list_any (is_on_slot k) (slot_without claim.slot claim.connection (without_owner leaving claim.slot claims)))
    (any_without k claim.slot claim.connection n (without_owner leaving claim.slot claims) (any_leaving k claim.slot n claims leaving h))

-- the slot itself is claimed
put_claimed : (claim : SlotClaim) (claims : List SlotClaim) → list_any (is_slot_claim claim.slot claim.connection) claims ≡ false → list_any (is_on_slot claim.slot) (claim_put claim claims) ≡ true
put_claimed claim claims h =
    rw h (any-append_last (is_on_slot claim.slot) claims (claim ∷ []) (or_left (claim.slot == claim.slot) false (eq-eqb claim.slot claim.slot refl)))

by_tests : (claim : SlotClaim) (claims : List SlotClaim) (owner : SlotClaim) → find (is_on_slot claim.slot) claims ≡ Some owner → (leaving : Option ℕ) → (same replaces leaves : Bool) → (owner.connection == claim.connection) ≡ same →
    list_any (is_on_slot claim.slot) (step_done (if same then steps.Put else if replaces then steps.Replace leaving else if leaves then steps.Remove else steps.Put) claim claims) ≡ true
by_tests claim claims owner e leaving true replaces leaves q =
    put_stays claim claims claim.slot (list_any (is_slot_claim claim.slot claim.connection) claims) (any-from_find (is_on_slot claim.slot) claims owner e)
by_tests claim claims owner e leaving false true leaves q =
    or_left (claim.slot == claim.slot) (list_any (is_on_slot claim.slot) (slot_without claim.slot claim.connection (without_owner leaving claim.slot claims))) (eq-eqb claim.slot claim.slot refl)
by_tests claim claims owner e leaving false false true q =
    any-from_find (is_on_slot claim.slot) (slot_without claim.slot claim.connection claims) owner
    (find-filter (is_on_slot claim.slot) (λ (c : SlotClaim). not (is_slot_claim claim.slot claim.connection c)) claims owner (ap not (and_right (owner.slot == claim.slot) (owner.connection == claim.connection) q)) e)
by_tests claim claims owner e leaving false false false q =
    put_stays claim claims claim.slot (list_any (is_slot_claim claim.slot claim.connection) claims) (any-from_find (is_on_slot claim.slot) claims owner e)

by_first : (claim : SlotClaim) (claims : List SlotClaim) (o : Option SlotClaim) → find (is_on_slot claim.slot) claims ≡ o → list_any (is_on_slot claim.slot) (step_done (step_of o claim.connection claim.flags) claim claims) ≡ true
by_first claim claims None e = put_claimed claim claims (any-both (is_on_slot claim.slot) (is_by claim.connection) claims (any-from_none (is_on_slot claim.slot) claims e))
by_first claim claims (Some owner) e =
    by_tests claim claims owner e (if has_flag owner.flags do_not_queue then Some owner.connection else None) (owner.connection == claim.connection) (has_flag owner.flags 1 && has_flag claim.flags 2) (has_flag claim.flags do_not_queue) refl

pub step_claims : (claim : SlotClaim) (claims : List SlotClaim) → list_any (is_on_slot claim.slot) (step_done (step_for claim claims) claim claims) ≡ true
step_claims claim claims = by_first claim claims (find (is_on_slot claim.slot) claims) refl

-- ---- the slots are used

pub used_claimed : (c : Bool) (h : Holding) → c ≡ true → is_unused c (Some h) ≡ false
used_claimed c h e = and_right (h.rules == 0) (not c) (ap not e)

used_less : (a c d : Bool) → (c ≡ true → d ≡ true) → (a && not c) ≡ false → (a && not d) ≡ false
used_less true true d k h = ap not (k refl)
used_less true false d k h = absurd (false≢true (sym h))
used_less false c d k h = refl

used_at : (claims : List SlotClaim) (slots after : List (Option Holding)) → AreUsed claims slots → (claim : SlotClaim) (new : Holding) (k : ℕ) (h : Holding) → ((k ≡ claim.slot) × (slice_get after k ≡ Some (Some new))) ⊎ ((k ≡ claim.slot → ⊥) × (slice_get after k ≡ slice_get slots k)) → slice_get after k ≡ Some (Some h) → is_unused (list_any (is_on_slot k) (step_done (step_for claim claims) claim claims)) (Some h) ≡ false
used_at claims slots after u claim new k h (inl a) e =
    used_claimed (list_any (is_on_slot k) (step_done (step_for claim claims) claim claims)) h
    (ap (λ (i : ℕ). list_any (is_on_slot i) (step_done (step_for claim claims) claim claims)) a.0 ∙ step_claims claim claims)
used_at claims slots after u claim new k h (inr b) e =
    used_less (h.rules == 0) (list_any (is_on_slot k) claims) (list_any (is_on_slot k) (step_done (step_for claim claims) claim claims)) (any_stays (step_for claim claims) claim claims k b.0) (u k h (sym b.1 ∙ e))

pub used_after : (claims : List SlotClaim) (slots : List (Option Holding)) → AreUsed claims slots → (claim : SlotClaim) (name : List ℕ) (rules : ℕ) → claim.slot < length slots → AreUsed (step_done (step_for claim claims) claim claims) (held_slots slots claim.slot name rules)
used_after claims slots u claim name rules fits k h e =
    used_at claims slots (held_slots slots claim.slot name rules) u claim (record { name = name; rules = rules }) k h (read_held slots claim.slot name rules fits k) e
