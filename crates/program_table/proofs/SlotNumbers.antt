-- Slots are below the number of names that can have one.
use Rattle.std.proofs.Common.{◌≡◌, ℕ, suc, ◌+◌, ◌<◌, Bool, true, false, cond, List, [], ◌∷◌, length, Option, Some, None, sym, subst, arith}
use Rattle.std.specs.Prelude.{IfSome, is_none}
use Rattle.std.specs.List.{position_from}
use Rattle.owners.specs.Registry.{Registry, IsRegistry, max_names, or_else, is_held_by, first_free, slot_of, slot_next}

longer : (k len : ℕ) (o : Option ℕ) → IfSome o (λ i. i < k + 1 + len) → IfSome o (λ i. i < k + suc len)
longer k len None h = tt
longer k len (Some i) h = omega (arith, h)

position_below : {X : Type 0} (p : X → Bool) (k : ℕ) (xs : List X) → IfSome (position_from p k xs) (λ i. i < k + length xs)
position_below p k [] = tt
position_below p k (x ∷ xs) = go (p x) (longer k (length xs) (position_from p (k + 1) xs) (position_below p (k + 1) xs))
  where
    go : (b : Bool) → IfSome (position_from p (k + 1) xs) (λ i. i < k + suc (length xs)) → IfSome (cond b (Some k) (position_from p (k + 1) xs)) (λ i. i < k + suc (length xs))
    go true h = omega arith
    go false h = h

below : (len n : ℕ) (o : Option ℕ) → len ≡ n → IfSome o (λ i. i < 0 + len) → IfSome o (λ i. i < n)
below len n None e h = tt
below len n (Some i) e h = omega (arith, e, h)

either_below : (n : ℕ) (a b : Option ℕ) → IfSome a (λ i. i < n) → IfSome b (λ i. i < n) → IfSome (or_else a b) (λ i. i < n)
either_below n (Some i) b h k = h
either_below n None b h k = k

pub slot_below : (name : List ℕ) (names : Registry) (o : Option ℕ) → o ≡ slot_next name names.slots → IsRegistry names → IfSome o (λ slot. slot < max_names)
slot_below name names o e is =
    subst (λ (x : Option ℕ). IfSome x (λ slot. slot < max_names)) (sym e)
    (either_below max_names (slot_of name names.slots) (first_free names.slots)
    (below (length names.slots) max_names (slot_of name names.slots) is.slots (position_below (is_held_by name) 0 names.slots))
    (below (length names.slots) max_names (first_free names.slots) is.slots (position_below is_none 0 names.slots)))
