-- Elements of lists that grow at their end, and of lists in which one is set.
use Rattle.std.proofs.Common.{◌≡◌, ◌≢◌, ℕ, zero, suc, ◌<◌, Bool, true, false, ◌||◌, List, [], ◌∷◌, ◌++◌, length, set, fold, Some, slice_get, refl, ap, ◌∙◌, arith}
use Rattle.std.specs.List.{list_any}
use Rattle.std.proofs.lemmas.List.Folds.{list_any-append}

pub slice_get-append_left : {X : Type 0} (xs ys : List X) (i : ℕ) → i < length xs → slice_get (xs ++ ys) i ≡ slice_get xs i
slice_get-append_left [] ys i within = absurd (omega arith)
slice_get-append_left (x ∷ xs) ys zero within = refl
slice_get-append_left (x ∷ xs) ys (suc i) within = slice_get-append_left xs ys i (omega arith)

pub slice_get_end : {X : Type 0} (xs : List X) (y : X) → slice_get (xs ++ y ∷ []) (length xs) ≡ Some y
slice_get_end [] y = refl
slice_get_end (x ∷ xs) y = slice_get_end xs y

pub slice_get-set_same : {X : Type 0} (xs : List X) (i : ℕ) (y : X) → i < length xs → slice_get (set xs i y) i ≡ Some y
slice_get-set_same [] i y within = absurd (omega arith)
slice_get-set_same (x ∷ xs) zero y within = refl
slice_get-set_same (x ∷ xs) (suc i) y within = slice_get-set_same xs i y (omega arith)

pub slice_get-set_other : {X : Type 0} (xs : List X) (i j : ℕ) (y : X) → j ≢ i → slice_get (set xs i y) j ≡ slice_get xs j
slice_get-set_other [] i j y other = refl
slice_get-set_other (x ∷ xs) zero zero y other = absurd (other refl)
slice_get-set_other (x ∷ xs) zero (suc j) y other = refl
slice_get-set_other (x ∷ xs) (suc i) zero y other = refl
slice_get-set_other (x ∷ xs) (suc i) (suc j) y other = slice_get-set_other xs i j y (λ same. other (ap suc same))

pub or_false : (b : Bool) → (b || false) ≡ b
or_false true = refl
or_false false = refl

-- whether an element passes, in a list with one more element
pub list_any_end : {X : Type 0} (p : X → Bool) (xs : List X) (y : X) → list_any p (xs ++ y ∷ []) ≡ (list_any p xs || p y)
list_any_end p xs y = list_any-append p xs (y ∷ []) ∙ ap (λ b. list_any p xs || b) (or_false (p y))

pub fold_end : {A B : Type 0} (f : B → A → B) (b : B) (xs : List A) (y : A) → fold f b (xs ++ y ∷ []) ≡ f (fold f b xs) y
fold_end f b [] y = refl
fold_end f b (x ∷ xs) y = fold_end f (f b x) xs y
