-- What is asked of kept claims and slots is told of names.
use Rattle.std.specs.Prelude.{◌≡◌, ◌<◌, ◌≤◌, ℕ, zero, suc, Bool, true, false, cond, List, [], ◌∷◌, Option, Some, None, map, find, filter, length, option_map, slice_get, replicate, nat_eq, unwrap_or, if◌then◌else◌}
use Rattle.std.specs.Option.{option_eq}
use Rattle.std.proofs.Common.{refl, sym, ap, ◌∙◌, arith}
use Rattle.std.proofs.lemmas.Bool.{false≢true, eqb-true}
use Rattle.owners.specs.declared.holding.Holding.{Holding}
use Rattle.owners.specs.declared.claim.SlotClaim.{SlotClaim}
use Rattle.owners.specs.Queues.{queue_of, is_on, Claim, is_of}
use Rattle.owners.specs.Registry.{least, least_of, next_name, is_after, is_owned_slot, is_owned_holding, max_names, slot_of, rules_in, rules_of, slot_next, first_free, or_else}
use Rattle.owners.specs.Kept.{slot_queue, named_claim, registry, is_name, is_on_slot, is_by, slot_owner, claim_name, IsKept}
use Rattle.owners.proofs.Lists.{Each, Each-weaker, Each-always, filter-map, map-map}
use Rattle.owners.proofs.Placed.{Tells, on_agrees, tells_own, HeldAt, each_held, no_slot_number}
use Rattle.owners.proofs.Steps.{owner_shown}

-- ---- the slots that a connection owns

no_claim_on : (k : ℕ) (slots : List (Option Holding)) → is_name (slice_get slots k) ≡ false → (c : SlotClaim) → HeldAt slots c → is_on_slot k c ≡ false
no_claim_on k slots n c h = by (is_on_slot k c) refl
  where
    by : (b : Bool) → is_on_slot k c ≡ b → b ≡ false
    by true e = absurd (false≢true (sym n ∙ ap (λ (i : ℕ). is_name (slice_get slots i)) (sym (eqb-true c.slot k e)) ∙ h))
    by false e = refl

none_first : (b : Bool) (x : SlotClaim) (o : Option SlotClaim) → b ≡ false → o ≡ None → cond b (Some x) o ≡ None
none_first true x o e f = absurd (false≢true (sym e))
none_first false x o e f = f

find_none : (k : ℕ) (claims : List SlotClaim) → Each (λ c. is_on_slot k c ≡ false) claims → find (is_on_slot k) claims ≡ None
find_none k [] e = refl
find_none k (c ∷ cs) e = none_first (is_on_slot k c) c (find (is_on_slot k) cs) e.0 (find_none k cs e.1)

no_owner : (k connection : ℕ) (slots : List (Option Holding)) (claims : List SlotClaim) → Each (HeldAt slots) claims → is_name (slice_get slots k) ≡ false → false ≡ option_eq nat_eq (slot_owner k claims) (Some connection)
no_owner k connection slots claims held n =
    sym (ap (λ (o : Option SlotClaim). option_eq nat_eq (option_map (λ (c : SlotClaim). c.connection) o) (Some connection)) (find_none k claims (Each-weaker (HeldAt slots) (λ (c : SlotClaim). is_on_slot k c ≡ false) (no_claim_on k slots n) claims held)))

owned_by : (claims : List SlotClaim) (slots : List (Option Holding)) → IsKept claims slots → (connection k : ℕ) (o : Option (Option Holding)) → slice_get slots k ≡ o → is_owned_holding connection (map (named_claim slots) claims) o ≡ option_eq nat_eq (slot_owner k claims) (Some connection)
owned_by claims slots p connection k None e = no_owner k connection slots claims (each_held claims slots p.placed.held) (ap is_name e)
owned_by claims slots p connection k (Some None) e = no_owner k connection slots claims (each_held claims slots p.placed.held) (ap is_name e)
owned_by claims slots p connection k (Some (Some h)) e =
    ap (λ (o : Option ℕ). option_eq nat_eq o (Some connection)) (owner_shown slots k h.name (tells_own claims slots p.placed k h h.name e refl) claims (each_held claims slots p.placed.held))

pub owned_slot : (claims : List SlotClaim) (slots : List (Option Holding)) → IsKept claims slots → (connection k : ℕ) → is_owned_slot connection (registry claims slots) k ≡ option_eq nat_eq (slot_owner k claims) (Some connection)
owned_slot claims slots p connection k = owned_by claims slots p connection k (slice_get slots k) refl

-- ---- the queue of a name

pub queue_shown : (slots : List (Option Holding)) (slot : ℕ) (name : List ℕ) → Tells slots slot name → (claims : List SlotClaim) → Each (HeldAt slots) claims → slot_queue slot claims ≡ queue_of name (map (named_claim slots) claims)
queue_shown slots slot name t claims e =
    sym (ap (map (λ (c : Claim). c.connection)) (filter-map (is_on name) (is_on_slot slot) (named_claim slots) claims (on_agrees slots slot name t claims e))
    ∙ map-map (λ (c : Claim). c.connection) (named_claim slots) (filter (is_on_slot slot) claims))

-- ---- the rules of a name

known_by : (slots : List (Option Holding)) (name : List ℕ) (slot : ℕ) (o : Option ℕ) → slot ≡ unwrap_or o no_slot_number → 0 < rules_in o slots → or_else o (first_free slots) ≡ Some slot
known_by slots name slot (Some k) e h = ap Some (sym e)
known_by slots name slot None e h = absurd (omega arith)

-- a name with a rule has a slot
pub known_is_next : (slots : List (Option Holding)) (name : List ℕ) (slot : ℕ) → slot ≡ unwrap_or (slot_of name slots) no_slot_number → 0 < rules_of name slots → slot_next name slots ≡ Some slot
known_is_next slots name slot e h = known_by slots name slot (slot_of name slots) e h

-- ---- the least name

pub least_shown : (claims : List SlotClaim) (slots : List (Option Holding)) (connection : ℕ) → least (map (claim_name slots) (filter (is_by connection) claims)) ≡ least_of connection (map (named_claim slots) claims)
least_shown claims slots connection =
    ap least (sym (ap (map (λ (c : Claim). c.name)) (filter-map (is_of connection) (is_by connection) (named_claim slots) claims (Each-always (λ (c : SlotClaim). is_of connection (named_claim slots c) ≡ is_by connection c) (λ c. refl) claims))
    ∙ map-map (λ (c : Claim). c.name) (named_claim slots) (filter (is_by connection) claims)))

pub next_shown : (claims : List SlotClaim) (slots : List (Option Holding)) (other : Option (List ℕ)) → least (map (claim_name slots) (filter (λ c. is_after other (claim_name slots c)) claims)) ≡ next_name other (map (named_claim slots) claims)
next_shown claims slots other =
    ap least (sym (ap (filter (is_after other)) (map-map (λ (c : Claim). c.name) (named_claim slots) claims)
    ∙ filter-map (is_after other) (λ (c : SlotClaim). is_after other (claim_name slots c)) (claim_name slots) claims (Each-always (λ (c : SlotClaim). is_after other (claim_name slots c) ≡ is_after other (claim_name slots c)) (λ c. refl) claims)))

-- ---- no names

abbrev no_holding : Option Holding
no_holding = None

free_place : (n k : ℕ) (h : Holding) → slice_get (replicate n no_holding) k ≡ Some (Some h) → ⊥
free_place zero k h e = absurd cc
free_place (suc n) zero h e = absurd cc
free_place (suc n) (suc k) h e = free_place n k h e

free_length : (n : ℕ) → length (replicate n no_holding) ≡ n
free_length zero = refl
free_length (suc n) = ap suc (free_length n)

pub opening_kept : (slots : List (Option Holding)) → slots ≡ replicate max_names None → IsKept [] slots
opening_kept slots e = record {
  placed = record {
    count = ap length e ∙ free_length max_names;
    fits = omega arith;
    unique = λ i j h k a b n. absurd (free_place max_names i h (ap (λ (l : List (Option Holding)). slice_get l i) (sym e) ∙ a));
    held = refl;
  };
  used = λ k h a. absurd (free_place max_names k h (ap (λ (l : List (Option Holding)). slice_get l k) (sym e) ∙ a));
}
