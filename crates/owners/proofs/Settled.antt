-- Slots that are let go when nobody needs them.
use Rattle.std.specs.Prelude.{◌≡◌, ◌≤◌, ℕ, Bool, true, false, List, Option, Some, None, map, length, option_map, slice_get, is_some, nat_lt, ◌==◌, if◌then◌else◌}
use Rattle.std.specs.List.{list_any}
use Rattle.std.proofs.Common.{refl, sym, ap, ◌∙◌, arith}
use Rattle.std.proofs.lemmas.Bool.{false≢true, eq-eqb, and_right}
use Rattle.std.proofs.lemmas.Bool.Decides.{Decides-ltb}
use Rattle.std.proofs.lemmas.Option.{slice_get-map, slice_get_within}
use Rattle.owners.specs.declared.holding.Holding.{Holding}
use Rattle.owners.specs.declared.claim.SlotClaim.{SlotClaim}
use Rattle.owners.specs.Queues.{Claim, is_on}
use Rattle.owners.specs.Registry.{Registry, IsRegistry, is_held_by, is_unused, kept_slot, settle_slots, slot_of, max_names, max_claims}
use Rattle.owners.specs.Kept.{name_at, named_claim, registry, is_name, is_on_slot, kept_at, are_slots, IsPlaced, AreUsed, IsKept, AreLetGo}
use Rattle.owners.proofs.Lists.{Each, Each-weaker, Each-both, Each-any, Each-map, all-from_Each, any-map, map-same, finds, length-map, same_elements}
use Rattle.owners.proofs.Placed.{tells_own, HeldAt, each_held, holds_name, name_same, slot_holds, on_agrees}

-- a claim on a name is one on its slot
claimed_as : (placed claims : List SlotClaim) (slots : List (Option Holding)) → IsPlaced placed slots → Each (HeldAt slots) claims → (k : ℕ) (h : Holding) → slice_get slots k ≡ Some (Some h) → list_any (is_on h.name) (map (named_claim slots) claims) ≡ list_any (is_on_slot k) claims
claimed_as placed claims slots p held k h e =
    any-map (is_on h.name) (is_on_slot k) (named_claim slots) claims (on_agrees slots k h.name (tells_own placed slots p k h h.name e refl) claims held)

kept_by : (placed claims : List SlotClaim) (slots : List (Option Holding)) → IsPlaced placed slots → Each (HeldAt slots) claims → (k : ℕ) (o : Option (Option Holding)) → slice_get slots k ≡ o → option_map (kept_slot (map (named_claim slots) claims)) o ≡ kept_at (list_any (is_on_slot k) claims) o
kept_by placed claims slots p held k None e = refl
kept_by placed claims slots p held k (Some None) e = refl
kept_by placed claims slots p held k (Some (Some h)) e =
    ap (λ (b : Bool). Some (if is_unused b (Some h) then None else Some h)) (claimed_as placed claims slots p held k h e)

let_go_kept : (placed claims : List SlotClaim) (slots after : List (Option Holding)) → IsPlaced placed slots → Each (HeldAt slots) claims → AreLetGo claims slots after → map (kept_slot (map (named_claim slots) claims)) slots ≡ after
let_go_kept placed claims slots after p held g =
    same_elements (map (kept_slot (map (named_claim slots) claims)) slots) after (λ k. slice_get-map (kept_slot (map (named_claim slots) claims)) slots k ∙ kept_by placed claims slots p held k (slice_get slots k) refl ∙ sym (g.at k))

claimed_stays : (c : Bool) (h : Holding) (o : Option (Option Holding)) → c ≡ true → o ≡ Some (Some h) → kept_at c o ≡ o
claimed_stays c h o t e =
    rw (t, e) (ap (λ (b : Bool). Some (if b then None else Some h)) (and_right (h.rules == 0) false refl))

stays : (claims : List SlotClaim) (slots after : List (Option Holding)) → AreLetGo claims slots after → (k : ℕ) → is_name (slice_get slots k) ≡ true → list_any (is_on_slot k) claims ≡ true → slice_get after k ≡ slice_get slots k
stays claims slots after g k e c =
    let r = holds_name (slice_get slots k) e in
    g.at k ∙ claimed_stays (list_any (is_on_slot k) claims) r.0 (slice_get slots k) c r.1

each_stays : (claims : List SlotClaim) (slots after : List (Option Holding)) → Each (HeldAt slots) claims → AreLetGo claims slots after → Each (λ c. slice_get after c.slot ≡ slice_get slots c.slot) claims
each_stays claims slots after held g =
    let AnyOf = λ (c : SlotClaim). (q : SlotClaim → Bool) → q c ≡ true → list_any q claims ≡ true in
    Each-weaker (λ (c : SlotClaim). HeldAt slots c × AnyOf c) (λ (c : SlotClaim). slice_get after c.slot ≡ slice_get slots c.slot)
    (λ (c : SlotClaim) (h : HeldAt slots c × AnyOf c). stays claims slots after g c.slot h.0 (h.1 (is_on_slot c.slot) (eq-eqb c.slot c.slot refl)))
    claims (Each-both (HeldAt slots) AnyOf claims held (Each-any (λ (c : SlotClaim). true) claims))

-- what is held after it was held before, and is used
was_held : (c : Bool) (o : Option (Option Holding)) (h : Holding) → kept_at c o ≡ Some (Some h) → (o ≡ Some (Some h)) × (is_unused c (Some h) ≡ false)
was_held c None h e = absurd cc
was_held c (Some None) h e = absurd cc
was_held c (Some (Some g)) h e = by (is_unused c (Some g)) refl e
  where
    by : (b : Bool) → is_unused c (Some g) ≡ b → Some (if b then None else Some g) ≡ Some (Some h) → (Some (Some g) ≡ Some (Some h)) × (is_unused c (Some h) ≡ false)
    by true u f = absurd cc
    by false u f = let same : g ≡ h = cc in (f, ap (λ (x : Holding). is_unused c (Some x)) (sym same) ∙ u)

held_before : (claims : List SlotClaim) (slots after : List (Option Holding)) → AreLetGo claims slots after → (k : ℕ) (h : Holding) → slice_get after k ≡ Some (Some h) → (slice_get slots k ≡ Some (Some h)) × (is_unused (list_any (is_on_slot k) claims) (Some h) ≡ false)
held_before claims slots after g k h e = was_held (list_any (is_on_slot k) claims) (slice_get slots k) h (sym (g.at k) ∙ e)

pub let_go_is_kept : (placed claims : List SlotClaim) (slots after : List (Option Holding)) → IsPlaced placed slots → length claims ≤ max_claims → Each (HeldAt slots) claims → AreLetGo claims slots after → IsKept claims after
let_go_is_kept placed claims slots after p fits held g = record {
  placed = record {
    count = g.size ∙ p.count;
    fits = fits;
    unique = λ i j h k e f n. p.unique i j h k (held_before claims slots after g i h e).0 (held_before claims slots after g j k f).0 n;
    held = all-from_Each (λ (c : SlotClaim). is_name (slice_get after c.slot)) claims (
        Each-weaker (λ (c : SlotClaim). HeldAt slots c × (slice_get after c.slot ≡ slice_get slots c.slot)) (HeldAt after) (λ (c : SlotClaim) (h : HeldAt slots c × (slice_get after c.slot ≡ slice_get slots c.slot)). ap is_name h.1 ∙ h.0) claims
        (Each-both (HeldAt slots) (λ (c : SlotClaim). slice_get after c.slot ≡ slice_get slots c.slot) claims held (each_stays claims slots after held g)));
  };
  used = λ k h e. (held_before claims slots after g k h e).1;
}

pub let_go_registry : (placed claims : List SlotClaim) (slots after : List (Option Holding)) → IsPlaced placed slots → Each (HeldAt slots) claims → AreLetGo claims slots after → registry claims after ≡ settle_slots (map (named_claim slots) claims) slots
let_go_registry placed claims slots after p held g =
    let same_claims = map-same (named_claim after) (named_claim slots) claims (Each-weaker (λ (c : SlotClaim). slice_get after c.slot ≡ slice_get slots c.slot) (λ (c : SlotClaim). named_claim after c ≡ named_claim slots c) (λ (c : SlotClaim) (h : slice_get after c.slot ≡ slice_get slots c.slot). ap (λ (o : Option (Option Holding)). let x : Claim = record { name = name_at o; connection = c.connection; flags = c.flags } in x) h) claims (each_stays claims slots after held g)) in
    ap (λ (l : List Claim). let r : Registry = record { claims = l; slots = after } in r) same_claims
    ∙ ap (λ (l : List (Option Holding)). let r : Registry = record { claims = map (named_claim slots) claims; slots = l } in r) (sym (let_go_kept placed claims slots after p held g))

used_at : (claims : List SlotClaim) (slots : List (Option Holding)) → AreUsed claims slots → (k : ℕ) (o : Option (Option Holding)) → slice_get slots k ≡ o → o ≡ kept_at (list_any (is_on_slot k) claims) o
used_at claims slots u k None e = refl
used_at claims slots u k (Some None) e = refl
used_at claims slots u k (Some (Some h)) e = ap (λ (b : Bool). Some (if b then None else Some h)) (sym (u k h e))

-- where each name is used, no slot is let go
pub none_let_go : (claims : List SlotClaim) (slots : List (Option Holding)) → AreUsed claims slots → AreLetGo claims slots slots
none_let_go claims slots u = record {
  size = refl;
  at = λ k. used_at claims slots u k (slice_get slots k) refl;
}

-- ---- what holds of kept claims holds of those on names

own_slot : (claims : List SlotClaim) (slots : List (Option Holding)) → IsPlaced claims slots → (slot : ℕ) (h : Holding) → slice_get slots slot ≡ Some (Some h) → slot_of h.name slots ≡ Some slot
own_slot claims slots p slot h e =
    let r = finds (is_held_by h.name) 0 slot slots (Some h) e (name_same h.name) in
    let g = slot_holds h.name slots r.0 r.1 in
    r.1 ∙ ap Some (p.unique r.0 slot g.0 h g.1 e g.2)

has_slot_of : (claims : List SlotClaim) (slots : List (Option Holding)) → IsPlaced claims slots → (c : SlotClaim) → HeldAt slots c → is_some (slot_of (name_at (slice_get slots c.slot)) slots) ≡ true
has_slot_of claims slots p c e =
    let r = holds_name (slice_get slots c.slot) e in
    ap (λ (o : Option (Option Holding)). is_some (slot_of (name_at o) slots)) r.1 ∙ ap is_some (own_slot claims slots p c.slot r.0 r.1)

used_by : (claims : List SlotClaim) (slots : List (Option Holding)) → IsKept claims slots → (k : ℕ) (o : Option (Option Holding)) → slice_get slots k ≡ o → option_map (kept_slot (map (named_claim slots) claims)) o ≡ o
used_by claims slots p k None e = refl
used_by claims slots p k (Some None) e = refl
used_by claims slots p k (Some (Some h)) e =
    ap (λ (b : Bool). Some (if is_unused b (Some h) then None else Some h)) (claimed_as claims claims slots p.placed (each_held claims slots p.placed.held) k h e)
    ∙ ap (λ (b : Bool). Some (if b then None else Some h)) (p.used k h e)

pub kept_is_registry : (claims : List SlotClaim) (slots : List (Option Holding)) → IsKept claims slots → IsRegistry (registry claims slots)
kept_is_registry claims slots p =
    let held = each_held claims slots p.placed.held in
    record {
      slots = p.placed.count;
      claims = omega (arith, p.placed.fits, length-map (named_claim slots) claims);
      own_slot = own_slot claims slots p.placed;
      claimed = all-from_Each (λ (c : Claim). is_some (slot_of c.name slots)) (map (named_claim slots) claims) (Each-map (λ (c : Claim). is_some (slot_of c.name slots) ≡ true) (named_claim slots) claims (Each-weaker (HeldAt slots) (λ (c : SlotClaim). is_some (slot_of (name_at (slice_get slots c.slot)) slots) ≡ true) (has_slot_of claims slots p.placed) claims held));
      used = same_elements (map (kept_slot (map (named_claim slots) claims)) slots) slots (λ k. slice_get-map (kept_slot (map (named_claim slots) claims)) slots k ∙ used_by claims slots p k (slice_get slots k) refl);
    }

-- each claim's slot is a slot
slot_fits : (slots : List (Option Holding)) → length slots ≡ max_names → (c : SlotClaim) → HeldAt slots c → nat_lt c.slot max_names ≡ true
slot_fits slots size c h = by (slice_get slots c.slot) refl h
  where
    by : (o : Option (Option Holding)) → slice_get slots c.slot ≡ o → is_name o ≡ true → nat_lt c.slot max_names ≡ true
    by None e n = absurd (false≢true n)
    by (Some x) e n = let inside = slice_get_within slots c.slot x e in (Decides-ltb c.slot max_names).1 (omega arith)

pub slots_fit : (slots : List (Option Holding)) → length slots ≡ max_names → (claims : List SlotClaim) → Each (HeldAt slots) claims → are_slots claims ≡ true
slots_fit slots size claims e =
    all-from_Each (λ (c : SlotClaim). nat_lt c.slot max_names) claims (Each-weaker (HeldAt slots) (λ (c : SlotClaim). nat_lt c.slot max_names ≡ true) (slot_fits slots size) claims e)
