-- Whether one of some things passes a test, from a place on.
use Rattle.std.proofs.Common.{◌≡◌, ℕ, suc, ◌+◌, ◌<◌, Bool, true, false, List, length, get_or, drop, sym, ap, ◌∙◌, add-one, drop-cons}
use Rattle.std.specs.Prelude.{◌||◌}
use Rattle.std.specs.List.{list_any}

at_place : {A : Type 0} (p : A → Bool) (xs : List A) (i : ℕ) (d : A) (b : Bool) → i < length xs → p (get_or xs i d) ≡ b → list_any p (drop i xs) ≡ (b || list_any p (drop (i + 1) xs))
at_place p xs i d b h e = rw add-one (ap (list_any p) (drop-cons xs i d h) ∙ ap (λ (first : Bool). first || list_any p (drop (suc i) xs)) e)

-- one that doesn't is passed over
pub any_later : {A : Type 0} (p : A → Bool) (xs : List A) (i : ℕ) (d : A) → i < length xs → p (get_or xs i d) ≡ false → list_any p (drop i xs) ≡ list_any p xs → list_any p (drop (i + 1) xs) ≡ list_any p xs
any_later p xs i d h e before = sym (at_place p xs i d false h e) ∙ before

-- one that does is found
pub any_here : {A : Type 0} (p : A → Bool) (xs : List A) (i : ℕ) (d : A) → i < length xs → p (get_or xs i d) ≡ true → list_any p (drop i xs) ≡ list_any p xs → true ≡ list_any p xs
any_here p xs i d h e before = sym (at_place p xs i d true h e) ∙ before
