-- What stays when a slot is given to a name.
use Rattle.std.specs.Prelude.{◌≡◌, ◌<◌, ℕ, true, List, Option, Some, map, length, slice_get, ◌⊎◌}
use Rattle.std.specs.Str.{bytes_eq}
use Rattle.std.proofs.Common.{sym, ap, ◌∙◌, inl, inr, length-set}
use Rattle.std.proofs.lemmas.Bool.{eqb-true, eq-eqb}
use Rattle.std.proofs.lemmas.Slice.Eq.{bytes_eq-Decides}
use Rattle.owners.specs.declared.holding.Holding.{Holding}
use Rattle.owners.specs.declared.claim.SlotClaim.{SlotClaim}
use Rattle.owners.specs.Queues.{Claim}
use Rattle.owners.specs.Kept.{name_at, named_claim, is_name, IsPlaced}
use Rattle.owners.proofs.Lists.{Each, Each-weaker, all-from_Each, map-same}
use Rattle.owners.proofs.Placed.{Tells, same_name, held_slots, read_held, HeldAt, each_held}

pub is_at : (slots : List (Option Holding)) (slot : ℕ) (name : List ℕ) → Tells slots slot name → (k : ℕ) (g : Holding) → slice_get slots k ≡ Some (Some g) → g.name ≡ name → k ≡ slot
is_at slots slot name t k g f n =
    let evidence = t.at k (ap is_name f) in
    let named : bytes_eq (name_at (slice_get slots k)) name ≡ true = ap (λ o. bytes_eq (name_at o) name) f ∙ (bytes_eq-Decides g.name name).1 n in
    eqb-true k slot (sym evidence ∙ named)

abbrev AtOrElse : List (Option Holding) → List (Option Holding) → ℕ → List ℕ → ℕ → ℕ → Type 0
AtOrElse slots after slot name rules k =
    ((k ≡ slot) × (slice_get after k ≡ Some (Some (record { name = name; rules = rules })))) ⊎ ((k ≡ slot → ⊥) × (slice_get after k ≡ slice_get slots k))

unique_by : (claims : List SlotClaim) (slots after : List (Option Holding)) → IsPlaced claims slots → (slot : ℕ) (name : List ℕ) (rules : ℕ) → Tells slots slot name → (i j : ℕ) (h g : Holding) → AtOrElse slots after slot name rules i → AtOrElse slots after slot name rules j → slice_get after i ≡ Some (Some h) → slice_get after j ≡ Some (Some g) → h.name ≡ g.name → i ≡ j
unique_by claims slots after p slot name rules t i j h g (inl a) (inl b) e f n = a.0 ∙ sym b.0
unique_by claims slots after p slot name rules t i j h g (inl a) (inr b) e f n =
    let new : Holding = record { name = name; rules = rules } in
    let is_new : Some (Some new) ≡ Some (Some h) = sym a.1 ∙ e in
    let same : new ≡ h = cc in
    absurd (b.0 (is_at slots slot name t j g (sym b.1 ∙ f) (sym n ∙ sym (ap (λ (x : Holding). x.name) same))))
unique_by claims slots after p slot name rules t i j h g (inr a) (inl b) e f n =
    let new : Holding = record { name = name; rules = rules } in
    let is_new : Some (Some new) ≡ Some (Some g) = sym b.1 ∙ f in
    let same : new ≡ g = cc in
    absurd (a.0 (is_at slots slot name t i h (sym a.1 ∙ e) (n ∙ sym (ap (λ (x : Holding). x.name) same))))
unique_by claims slots after p slot name rules t i j h g (inr a) (inr b) e f n =
    p.unique i j h g (sym a.1 ∙ e) (sym b.1 ∙ f) n

named_by : (slots after : List (Option Holding)) (slot : ℕ) (name : List ℕ) (rules : ℕ) → Tells slots slot name → (k : ℕ) → AtOrElse slots after slot name rules k → is_name (slice_get slots k) ≡ true → (is_name (slice_get after k) ≡ true) × (name_at (slice_get after k) ≡ name_at (slice_get slots k))
named_by slots after slot name rules t k (inl a) e =
    let evidence = t.at k e in
    let here : bytes_eq (name_at (slice_get slots k)) name ≡ true = evidence ∙ eq-eqb k slot a.0 in
    (ap is_name a.1, ap name_at a.1 ∙ sym (same_name (name_at (slice_get slots k)) name here))
named_by slots after slot name rules t k (inr b) e = (ap is_name b.1 ∙ e, ap name_at b.1)

pub named_still : (slots : List (Option Holding)) (slot : ℕ) (name : List ℕ) (rules : ℕ) → slot < length slots → Tells slots slot name → (k : ℕ) → is_name (slice_get slots k) ≡ true → (is_name (slice_get (held_slots slots slot name rules) k) ≡ true) × (name_at (slice_get (held_slots slots slot name rules) k) ≡ name_at (slice_get slots k))
named_still slots slot name rules fits t k e =
    named_by slots (held_slots slots slot name rules) slot name rules t k (read_held slots slot name rules fits k) e

pub each_held_still : (slots : List (Option Holding)) (slot : ℕ) (name : List ℕ) (rules : ℕ) → slot < length slots → Tells slots slot name → (claims : List SlotClaim) → Each (HeldAt slots) claims → Each (HeldAt (held_slots slots slot name rules)) claims
each_held_still slots slot name rules fits t claims e =
    Each-weaker (HeldAt slots) (HeldAt (held_slots slots slot name rules)) (λ (c : SlotClaim) (h : HeldAt slots c). (named_still slots slot name rules fits t c.slot h).0) claims e

-- the claims are on the same names
pub shown_still : (slots : List (Option Holding)) (slot : ℕ) (name : List ℕ) (rules : ℕ) → slot < length slots → Tells slots slot name → (claims : List SlotClaim) → Each (HeldAt slots) claims → map (named_claim (held_slots slots slot name rules)) claims ≡ map (named_claim slots) claims
shown_still slots slot name rules fits t claims e =
    let after = held_slots slots slot name rules in
    map-same (named_claim after) (named_claim slots) claims (Each-weaker (HeldAt slots) (λ (c : SlotClaim). named_claim after c ≡ named_claim slots c) (λ (c : SlotClaim) (h : HeldAt slots c). ap (λ (n : List ℕ). let x : Claim = record { name = n; connection = c.connection; flags = c.flags } in x) (named_still slots slot name rules fits t c.slot h).1) claims e)

pub placed_still : (claims : List SlotClaim) (slots : List (Option Holding)) → IsPlaced claims slots → (slot : ℕ) (name : List ℕ) (rules : ℕ) → slot < length slots → Tells slots slot name → IsPlaced claims (held_slots slots slot name rules)
placed_still claims slots p slot name rules fits t = record {
  count = length-set slots slot (Some (record { name = name; rules = rules })) ∙ p.count;
  fits = p.fits;
  unique = λ i j h g. unique_by claims slots (held_slots slots slot name rules) p slot name rules t i j h g (read_held slots slot name rules fits i) (read_held slots slot name rules fits j);
  held = all-from_Each (λ (c : SlotClaim). is_name (slice_get (held_slots slots slot name rules) c.slot)) claims (each_held_still slots slot name rules fits t claims (each_held claims slots p.held));
}
