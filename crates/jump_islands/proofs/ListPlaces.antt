-- Elements of lists that grow at the end, of reversed lists, and of lists whose elements all pass a test.
use Rattle.std.proofs.Common.{◌≡◌, ℕ, zero, suc, ◌+◌, ◌-◌, ◌<◌, Bool, true, List, [], ◌∷◌, ◌++◌, length, reverse, get_or, Some, inl, inr, refl, sym, ap, ◌∙◌, arith}
use Rattle.std.proofs.lemmas.Bool.{cases_Bool, true≢false}
use Rattle.std.proofs.lemmas.List.{get_or-reverse}
use Rattle.std.proofs.lemmas.List.Folds.{list_all_at}
use Rattle.std.proofs.lemmas.Option.{slice_get_read, get_or_from_slice_get}
use Rattle.std.specs.List.{slice_get, list_all}
use Rattle.std.proofs.Math.ListN.{length-reverse}

pub slice_get-front : {X : Type 0} (xs ys : List X) (j : ℕ) (x : X) → slice_get xs j ≡ Some x → slice_get (xs ++ ys) j ≡ Some x
slice_get-front [] ys j x h = cc
slice_get-front (y ∷ xs) ys zero x h = h
slice_get-front (y ∷ xs) ys (suc j) x h = slice_get-front xs ys j x h

pub slice_get-seam : {X : Type 0} (xs ys : List X) (x : X) → slice_get (xs ++ x ∷ ys) (length xs) ≡ Some x
slice_get-seam [] ys x = refl
slice_get-seam (y ∷ xs) ys x = slice_get-seam xs ys x

pub slice_get-reverse : {X : Type 0} (xs : List X) (j q : ℕ) (x : X) → slice_get xs j ≡ Some x → q + j + 1 ≡ length xs → slice_get (reverse xs) q ≡ Some x
slice_get-reverse xs j q x h e =
    let inside : q < length xs = omega arith in
    let at : length xs - 1 - q ≡ j = omega arith in
    let r : get_or (reverse xs) q x ≡ get_or xs j x = get_or-reverse xs q x inside ∙ ap (λ (i : ℕ). get_or xs i x) at in
    slice_get_read (reverse xs) (length xs) q x (sym (length-reverse xs)) inside (sym (r ∙ get_or_from_slice_get xs j x x h))

pub all_at : {X : Type 0} (p : X → Bool) (xs : List X) (i : ℕ) (d : X) → list_all p xs ≡ true → i < length xs → p (get_or xs i d) ≡ true
all_at p xs i d all inside =
    elim (cases_Bool (p (get_or xs i d))) [ inl h ↦ h | inr h ↦ absurd (true≢false (sym all ∙ list_all_at p xs i d inside h)) ]
