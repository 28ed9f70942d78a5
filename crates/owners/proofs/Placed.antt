-- What slots tell of names, and a name that gets a slot.
use Rattle.std.specs.Prelude.{◌≡◌, ◌<◌, ◌≤◌, ℕ, Bool, true, false, List, Option, Some, None, length, set, slice_get, is_none, unwrap_or, ◌&&◌, ◌==◌, ◌⊎◌}
use Rattle.std.specs.Str.{bytes_eq}
use Rattle.std.proofs.Common.{refl, sym, ap, ◌∙◌, arith, inl, inr}
use Rattle.std.proofs.lemmas.Bool.{false≢true, eqb-true, eq-eqb, eqb-false}
use Rattle.std.proofs.lemmas.Bool.Decides.{same_from_decides}
use Rattle.std.proofs.lemmas.Slice.Eq.{bytes_eq-Decides}
use Rattle.std.proofs.lemmas.Option.{slice_get_past, slice_get_within}
use Rattle.owners.specs.declared.holding.Holding.{Holding}
use Rattle.owners.specs.declared.claim.SlotClaim.{SlotClaim}
use Rattle.owners.specs.Queues.{is_on, is_claim}
use Rattle.owners.specs.Registry.{is_held_by, slot_of, slot_next, first_free, or_else, rules_at, rules_in, rules_of}
use Rattle.owners.specs.Kept.{name_at, named_claim, is_name, is_on_slot, is_slot_claim, are_held, IsPlaced}
use Rattle.owners.proofs.Lists.{Each, Each-from_all, Each-weaker, found, finds, slice_get-set_same, slice_get-set_other}

pub same_name : (a b : List ℕ) → bytes_eq a b ≡ true → a ≡ b
same_name a b = (bytes_eq-Decides a b).0

pub name_same : (a : List ℕ) → bytes_eq a a ≡ true
name_same a = (bytes_eq-Decides a a).1 refl

pub holds_name : (o : Option (Option Holding)) → is_name o ≡ true → (h : Holding) × (o ≡ Some (Some h))
holds_name (Some (Some h)) e = (h, refl)
holds_name (Some None) e = absurd (false≢true e)
holds_name None e = absurd (false≢true e)

-- of the names that have slots, the slot has that name, and no other slot has
pub record Tells (slots : List (Option Holding)) (slot : ℕ) (name : List ℕ) : Type 0 where
  pub at : (k : ℕ) → is_name (slice_get slots k) ≡ true → bytes_eq (name_at (slice_get slots k)) name ≡ (k == slot)

own_at : (claims : List SlotClaim) (slots : List (Option Holding)) → IsPlaced claims slots → (slot k : ℕ) (h g : Holding) (name : List ℕ) → slice_get slots slot ≡ Some (Some h) → h.name ≡ name → slice_get slots k ≡ Some (Some g) → bytes_eq (name_at (slice_get slots k)) name ≡ (k == slot)
own_at claims slots p slot k h g name e n f =
    rw f (same_from_decides (bytes_eq g.name name) (k == slot) (bytes_eq-Decides g.name name) (
      λ s. let same : k ≡ slot = eqb-true k slot s in let both : Some (Some g) ≡ Some (Some h) = sym f ∙ ap (slice_get slots) same ∙ e in let one : g ≡ h = cc in ap (λ (x : Holding). x.name) one ∙ n,
      λ m. eq-eqb k slot (p.unique k slot g h f e (m ∙ sym n)),
    ))

pub tells_own : (claims : List SlotClaim) (slots : List (Option Holding)) → IsPlaced claims slots → (slot : ℕ) (h : Holding) (name : List ℕ) → slice_get slots slot ≡ Some (Some h) → h.name ≡ name → Tells slots slot name
tells_own claims slots p slot h name e n = record {
  at = λ k i. let r = holds_name (slice_get slots k) i in own_at claims slots p slot k h r.0 name e n r.1;
}

held_by : (name : List ℕ) (h : Holding) → h.name ≡ name → is_held_by name (Some h) ≡ true
held_by name h e = (bytes_eq-Decides h.name name).1 e

pub no_slot : (name : List ℕ) (slots : List (Option Holding)) (k : ℕ) (h : Holding) → slot_of name slots ≡ None → slice_get slots k ≡ Some (Some h) → h.name ≡ name → ⊥
no_slot name slots k h none e n =
    let r = finds (is_held_by name) 0 k slots (Some h) e (held_by name h n) in
    let f = r.1 in cc

free_at : (slots : List (Option Holding)) (slot k : ℕ) (g : Holding) (name : List ℕ) → slot_of name slots ≡ None → is_name (slice_get slots slot) ≡ false → slice_get slots k ≡ Some (Some g) → bytes_eq (name_at (slice_get slots k)) name ≡ (k == slot)
free_at slots slot k g name none free f =
    rw f (same_from_decides (bytes_eq g.name name) (k == slot) (
      λ s. no_slot name slots k g none f (same_name g.name name s),
      λ (x : ⊥). absurd x,
    ) (
      λ s. let same : k ≡ slot = eqb-true k slot s in false≢true (sym free ∙ ap (λ i. is_name (slice_get slots i)) (sym same) ∙ ap is_name f),
      λ (x : ⊥). absurd x,
    ))

pub tells_free : (slots : List (Option Holding)) (slot : ℕ) (name : List ℕ) → slot_of name slots ≡ None → is_name (slice_get slots slot) ≡ false → Tells slots slot name
tells_free slots slot name none free = record {
  at = λ k i. let r = holds_name (slice_get slots k) i in free_at slots slot k r.0 name none free r.1;
}

-- the holding at the slot that a name has
holding_of : (name : List ℕ) (o : Option Holding) → is_held_by name o ≡ true → (h : Holding) × (o ≡ Some h) × (h.name ≡ name)
holding_of name None e = absurd (false≢true e)
holding_of name (Some h) e = (h, refl, same_name h.name name e)

pub slot_holds : (name : List ℕ) (slots : List (Option Holding)) (slot : ℕ) → slot_of name slots ≡ Some slot → (h : Holding) × (slice_get slots slot ≡ Some (Some h)) × (h.name ≡ name)
slot_holds name slots slot e =
    let r = found (is_held_by name) 0 slot slots e in
    let h = holding_of name r.1 r.4 in
    let place : slot ≡ r.0 = omega (arith, r.2) in
    (h.0, ap (slice_get slots) place ∙ r.3 ∙ ap Some h.1, h.2)

free_item : (o : Option Holding) → is_none o ≡ true → o ≡ None
free_item None e = refl
free_item (Some h) e = absurd (false≢true e)

pub slot_is_free : (slots : List (Option Holding)) (slot : ℕ) → first_free slots ≡ Some slot → slice_get slots slot ≡ Some None
slot_is_free slots slot e =
    let r = found is_none 0 slot slots e in
    let place : slot ≡ r.0 = omega (arith, r.2) in
    ap (slice_get slots) place ∙ r.3 ∙ ap Some (free_item r.1 r.4)

next_by : (claims : List SlotClaim) (slots : List (Option Holding)) → IsPlaced claims slots → (name : List ℕ) (slot : ℕ) (o : Option ℕ) → slot_of name slots ≡ o → or_else o (first_free slots) ≡ Some slot → Tells slots slot name × (slot < length slots) × (rules_in o slots ≡ rules_at (slice_get slots slot))
next_by claims slots p name slot (Some j) e n =
    let same : j ≡ slot = cc in
    let at : slot_of name slots ≡ Some slot = e ∙ n in
    let r = slot_holds name slots slot at in
    (tells_own claims slots p slot r.0 name r.1 r.2, slice_get_within slots slot (Some r.0) r.1, ap (λ i. rules_at (slice_get slots i)) same)
next_by claims slots p name slot None e n =
    let at = slot_is_free slots slot n in
    (tells_free slots slot name e (ap is_name at), slice_get_within slots slot None at, sym (ap rules_at at))

pub next_tells : (claims : List SlotClaim) (slots : List (Option Holding)) → IsPlaced claims slots → (name : List ℕ) (slot : ℕ) → slot_next name slots ≡ Some slot → Tells slots slot name × (slot < length slots) × (rules_of name slots ≡ rules_at (slice_get slots slot))
next_tells claims slots p name slot n = next_by claims slots p name slot (slot_of name slots) refl n

-- a number that is no slot's
abbrev pub no_slot_number : ℕ
no_slot_number = 65535

known_by : (claims : List SlotClaim) (slots : List (Option Holding)) → IsPlaced claims slots → (name : List ℕ) (o : Option ℕ) → slot_of name slots ≡ o → Tells slots (unwrap_or o no_slot_number) name
known_by claims slots p name (Some j) e =
    let r = slot_holds name slots j e in tells_own claims slots p j r.0 name r.1 r.2
known_by claims slots p name None e =
    let past : length slots ≤ no_slot_number = omega (arith, p.count) in
    tells_free slots no_slot_number name e (ap is_name (slice_get_past slots no_slot_number past))

pub known_tells : (claims : List SlotClaim) (slots : List (Option Holding)) → IsPlaced claims slots → (name : List ℕ) → Tells slots (unwrap_or (slot_of name slots) no_slot_number) name
known_tells claims slots p name = known_by claims slots p name (slot_of name slots) refl

abbrev pub HeldAt : List (Option Holding) → SlotClaim → Type 0
HeldAt slots c = is_name (slice_get slots c.slot) ≡ true

pub each_held : (claims : List SlotClaim) (slots : List (Option Holding)) → are_held claims slots ≡ true → Each (HeldAt slots) claims
each_held claims slots e = Each-from_all (λ (c : SlotClaim). is_name (slice_get slots c.slot)) (HeldAt slots) (λ c h. h) claims e

-- the tests of claims by name and by slot agree
pub on_agrees : (slots : List (Option Holding)) (slot : ℕ) (name : List ℕ) → Tells slots slot name → (claims : List SlotClaim) → Each (HeldAt slots) claims → Each (λ c. is_on name (named_claim slots c) ≡ is_on_slot slot c) claims
on_agrees slots slot name t claims e =
    Each-weaker (HeldAt slots) (λ (c : SlotClaim). is_on name (named_claim slots c) ≡ is_on_slot slot c) (λ c h. t.at c.slot h) claims e

pub claim_agrees : (slots : List (Option Holding)) (slot connection : ℕ) (name : List ℕ) → Tells slots slot name → (claims : List SlotClaim) → Each (HeldAt slots) claims → Each (λ c. is_claim name connection (named_claim slots c) ≡ is_slot_claim slot connection c) claims
claim_agrees slots slot connection name t claims e =
    Each-weaker (HeldAt slots) (λ (c : SlotClaim). is_claim name connection (named_claim slots c) ≡ is_slot_claim slot connection c) (λ c h. ap (λ b. b && (c.connection == connection)) (t.at c.slot h)) claims e

-- ---- a slot is given to a name, or its rules are counted anew

abbrev pub held_slots : List (Option Holding) → ℕ → List ℕ → ℕ → List (Option Holding)
held_slots slots slot name rules = set slots slot (Some (record { name = name; rules = rules }))

pub read_held : (slots : List (Option Holding)) (slot : ℕ) (name : List ℕ) (rules : ℕ) → slot < length slots → (k : ℕ) → ((k ≡ slot) × (slice_get (held_slots slots slot name rules) k ≡ Some (Some (record { name = name; rules = rules })))) ⊎ ((k ≡ slot → ⊥) × (slice_get (held_slots slots slot name rules) k ≡ slice_get slots k))
read_held slots slot name rules fits k = by (k == slot) refl
  where
    by : (b : Bool) → (k == slot) ≡ b → ((k ≡ slot) × (slice_get (held_slots slots slot name rules) k ≡ Some (Some (record { name = name; rules = rules })))) ⊎ ((k ≡ slot → ⊥) × (slice_get (held_slots slots slot name rules) k ≡ slice_get slots k))
    by true e = let same : k ≡ slot = eqb-true k slot e in inl (same, ap (slice_get (held_slots slots slot name rules)) same ∙ slice_get-set_same slots slot (Some (record { name = name; rules = rules })) fits)
    by false e = let other = eqb-false k slot e in inr (other, slice_get-set_other slots slot k (Some (record { name = name; rules = rules })) other)
