-- Slots that are marked as claims are gone through.
use Rattle.std.specs.Prelude.{◌≡◌, ◌<◌, ◌+◌, ℕ, Bool, true, false, not, List, ◌∷◌, Option, Some, find, option_map, nat_lt, nat_eq, drop, get_or, length, ◌&&◌, ◌||◌, ◌==◌, if◌then◌else◌}
use Rattle.std.specs.List.{list_any}
use Rattle.std.specs.Option.{option_eq}
use Rattle.std.proofs.Common.{refl, sym, ap, ◌∙◌, add-one, drop-cons}
use Rattle.std.proofs.lemmas.Bool.{eqb-true, eq-eqb, false≢true, and_parts}
use Rattle.std.proofs.lemmas.Bool.Decides.{same_from_decides, Decides-eqb, Decides-ltb}
use Rattle.owners.specs.declared.claim.SlotClaim.{SlotClaim}
use Rattle.owners.specs.Registry.{max_names}
use Rattle.owners.specs.Kept.{is_on_slot, slot_owner, are_slots}

-- the claim at a place, and those after it
pub rest_at : (claims : List SlotClaim) (i : ℕ) (d : SlotClaim) → i < length claims → drop i claims ≡ get_or claims i d ∷ drop (i + 1) claims
rest_at claims i d h = rw add-one (drop-cons claims i d h)

eqb-swap : (m n : ℕ) → (m == n) ≡ (n == m)
eqb-swap m n = same_from_decides (m == n) (n == m) (Decides-eqb m n) (λ e. sym (eqb-true n m e), λ e. eq-eqb n m (sym e))

moves : (a h r : Bool) → ((a || h) || r) ≡ (h || (a || r))
moves true true r = refl
moves true false r = refl
moves false h r = refl

-- once one more claim is marked, one fewer isn't
pub marked_more : (claims : List SlotClaim) (i : ℕ) (c : SlotClaim) (slot : ℕ) (before after : Bool) → drop i claims ≡ c ∷ drop (i + 1) claims → after ≡ ((slot == c.slot) || before) → (before || list_any (is_on_slot slot) (drop i claims)) ≡ list_any (is_on_slot slot) claims → (after || list_any (is_on_slot slot) (drop (i + 1) claims)) ≡ list_any (is_on_slot slot) claims
marked_more claims i c slot before after e a h =
    let rest = list_any (is_on_slot slot) (drop (i + 1) claims) in
    ap (λ (b : Bool). b || rest) (a ∙ ap (λ (b : Bool). b || before) (eqb-swap slot c.slot))
    ∙ moves (c.slot == slot) before rest
    ∙ ap (λ (l : List SlotClaim). before || list_any (is_on_slot slot) l) (sym e)
    ∙ h

pub slots_rest : (claims : List SlotClaim) (i : ℕ) (c : SlotClaim) → drop i claims ≡ c ∷ drop (i + 1) claims → are_slots (drop i claims) ≡ true → (c.slot < max_names) × (are_slots (drop (i + 1) claims) ≡ true)
slots_rest claims i c e h =
    let both = and_parts (nat_lt c.slot max_names) (are_slots (drop (i + 1) claims)) (ap are_slots (sym e) ∙ h) in
    ((Decides-ltb c.slot max_names).0 both.0, both.1)

abbrev pub owns : ℕ → ℕ → List SlotClaim → Bool
owns connection slot claims = option_eq nat_eq (slot_owner slot claims) (Some connection)

owns_first : (b : Bool) (connection : ℕ) (c : SlotClaim) (o : Option SlotClaim) → option_eq nat_eq (option_map (λ (x : SlotClaim). x.connection) (if b then Some c else o)) (Some connection) ≡ (if b then c.connection == connection else option_eq nat_eq (option_map (λ (x : SlotClaim). x.connection) o) (Some connection))
owns_first true connection c o = refl
owns_first false connection c o = refl

-- here: the slot is the claim's; seen: it was marked; first: the claim's slot wasn't marked; mine: the claim is the
-- connection's
owned_bits : (here seen first mine owned rest : Bool) → (here ≡ true → first ≡ not seen) → (((first && mine) && here) || owned) || (not (here || seen) && rest) ≡ (owned || (not seen && (if here then mine else rest)))
owned_bits true seen first mine owned rest f = by seen first mine owned (f refl)
  where
    by : (s g m o : Bool) → g ≡ not s → (((g && m) && true) || o) || (not (true || s) && rest) ≡ (o || (not s && m))
    by true true m o e = absurd (false≢true (sym e))
    by true false m true e = refl
    by true false m false e = refl
    by false false m o e = absurd (false≢true e)
    by false true true true e = refl
    by false true true false e = refl
    by false true false true e = refl
    by false true false false e = refl
owned_bits false seen first mine owned rest f = by first mine
  where
    by : (g m : Bool) → (((g && m) && false) || owned) || (not seen && rest) ≡ (owned || (not seen && rest))
    by true true = refl
    by true false = refl
    by false m = refl

pub owned_more : (claims : List SlotClaim) (i connection : ℕ) (c : SlotClaim) (slot : ℕ) (seen owned first owned_after seen_after : Bool) → drop i claims ≡ c ∷ drop (i + 1) claims →
    owned_after ≡ (((first && (c.connection == connection)) && (slot == c.slot)) || owned) → seen_after ≡ ((slot == c.slot) || seen) → (slot ≡ c.slot → first ≡ not seen) →
    (owned || (not seen && owns connection slot (drop i claims))) ≡ owns connection slot claims → (owned_after || (not seen_after && owns connection slot (drop (i + 1) claims))) ≡ owns connection slot claims
owned_more claims i connection c slot seen owned first owned_after seen_after e o s f h =
    let rest = owns connection slot (drop (i + 1) claims) in
    let here : (slot == c.slot) ≡ is_on_slot slot c = eqb-swap slot c.slot in
    ap (λ (b : Bool). b || (not seen_after && rest)) o
    ∙ ap (λ (b : Bool). (((first && (c.connection == connection)) && (slot == c.slot)) || owned) || (not b && rest)) s
    ∙ owned_bits (slot == c.slot) seen first (c.connection == connection) owned rest (λ k. f (eqb-true slot c.slot k))
    ∙ ap (λ (b : Bool). owned || (not seen && (if b then c.connection == connection else rest))) here
    ∙ ap (λ (b : Bool). owned || (not seen && b)) (sym (owns_first (is_on_slot slot c) connection c (find (is_on_slot slot) (drop (i + 1) claims))))
    ∙ ap (λ (l : List SlotClaim). owned || (not seen && owns connection slot l)) (sym e)
    ∙ h
