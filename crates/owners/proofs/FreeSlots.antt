-- Slots of which none is held from a mark on.
use Rattle.std.specs.Prelude.{◌≡◌, ◌≤◌, ◌+◌, ℕ, zero, suc, Bool, false, cond, List, [], ◌∷◌, Option, Some, None, replicate, slice_get, take}
use Rattle.std.specs.List.{position_from}
use Rattle.std.proofs.Common.{refl, sym, ap, ◌∙◌, arith}
use Rattle.std.proofs.lemmas.Bool.{false≢true}
use Rattle.owners.specs.declared.holding.Holding.{Holding}
use Rattle.owners.specs.Registry.{is_held_by, slot_of}
use Rattle.owners.specs.Kept.{is_name, IsFreeFrom}

-- ---- a search below the mark finds what one of all slots does

none_passes : {X : Type 0} (p : X → Bool) (i : ℕ) (xs : List X) → ((k : ℕ) (x : X) → slice_get xs k ≡ Some x → p x ≡ false) → None ≡ position_from p i xs
none_passes p i [] h = refl
none_passes p i (x ∷ xs) h = rw (h 0 x refl) (none_passes p (i + 1) xs (λ k y e. h (suc k) y e))

position_below : {X : Type 0} (p : X → Bool) (i mark : ℕ) (xs : List X) → ((k : ℕ) (x : X) → mark ≤ k → slice_get xs k ≡ Some x → p x ≡ false) → position_from p i (take mark xs) ≡ position_from p i xs
position_below p i zero xs h = none_passes p i xs (λ k x e. h k x (omega arith) e)
position_below p i (suc mark) [] h = refl
position_below p i (suc mark) (x ∷ xs) h =
    ap (λ (o : Option ℕ). cond (p x) (Some i) o) (position_below p (i + 1) mark xs (λ k y l e. h (suc k) y (omega arith) e))

not_held : (name : List ℕ) (o : Option Holding) → is_name (Some o) ≡ false → is_held_by name o ≡ false
not_held name None e = refl
not_held name (Some h) e = absurd (false≢true (sym e))

pub slot_below : (mark : ℕ) (slots : List (Option Holding)) → IsFreeFrom mark slots → (name : List ℕ) → slot_of name (take mark slots) ≡ slot_of name slots
slot_below mark slots f name =
    position_below (is_held_by name) 0 mark slots (λ k o l e. not_held name o (sym (ap is_name e) ∙ f.free k l))

-- ---- the mark

abbrev no_holding : Option Holding
no_holding = None

none_held : (n k : ℕ) → is_name (slice_get (replicate n no_holding) k) ≡ false
none_held zero k = refl
none_held (suc n) zero = refl
none_held (suc n) (suc k) = none_held n k

pub free_from_start : (n : ℕ) (slots : List (Option Holding)) → slots ≡ replicate n None → IsFreeFrom 0 slots
free_from_start n slots e = record {
  within = omega arith;
  free = λ k l. ap (λ (s : List (Option Holding)). is_name (slice_get s k)) e ∙ none_held n k;
}
