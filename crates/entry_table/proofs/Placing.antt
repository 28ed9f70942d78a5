-- Places but one.
use Rattle.std.proofs.Common.{◌≡◌, ◌≢◌, ℕ, Bool, false, not, ◌||◌, List, [], ◌∷◌, refl, sym, ap, ◌∙◌, eqb, inl, inr}
use Rattle.std.proofs.lemmas.Bool.{eqb-true, ne_eqb, or_from, cond-true, cond-false, cases_Bool, not_from_true, not_from_false}
use Rattle.entry_table.specs.PlaceLists.{has_place, without}
use Rattle.entry_table.specs.PlacedEntries.{Placed, places_of, but_at}

pub has_place-gone : (place : ℕ) (places : List ℕ) → has_place place (without place places) ≡ false
has_place-gone place [] = refl
has_place-gone place (x ∷ xs) =
    elim (cases_Bool (eqb place x)) [
      | inl here ↦ ap (has_place place) (cond-false (not (eqb place x)) (x ∷ without place xs) (without place xs) (not_from_true (eqb place x) here)) ∙ has_place-gone place xs
      | inr there ↦ ap (has_place place) (cond-true (not (eqb place x)) (x ∷ without place xs) (without place xs) (not_from_false (eqb place x) there)) ∙ or_from (eqb place x) (has_place place (without place xs)) there (has_place-gone place xs)
    ]

pub has_place-kept : (p q : ℕ) → p ≢ q → (xs : List ℕ) → has_place p (without q xs) ≡ has_place p xs
has_place-kept p q ne [] = refl
has_place-kept p q ne (x ∷ xs) =
    elim (cases_Bool (eqb q x)) [
      | inl here ↦ ap (has_place p) (cond-false (not (eqb q x)) (x ∷ without q xs) (without q xs) (not_from_true (eqb q x) here)) ∙ has_place-kept p q ne xs ∙ sym (ap (λ (b : Bool). b || has_place p xs) (ne_eqb p x (λ e. ne (e ∙ sym (eqb-true q x here)))))
      | inr there ↦ ap (has_place p) (cond-true (not (eqb q x)) (x ∷ without q xs) (without q xs) (not_from_false (eqb q x) there)) ∙ ap (λ (b : Bool). eqb p x || b) (has_place-kept p q ne xs)
    ]

-- the places of the other entries
pub places_of-but : (place : ℕ) (held : List Placed) → places_of (but_at place held) ≡ without place (places_of held)
places_of-but place [] = refl
places_of-but place (x ∷ xs) =
    elim (cases_Bool (not (eqb place x.0))) [
      | inl keeps ↦ ap places_of (cond-true (not (eqb place x.0)) (x ∷ but_at place xs) (but_at place xs) keeps) ∙ ap (λ (ys : List ℕ). x.0 ∷ ys) (places_of-but place xs) ∙ sym (cond-true (not (eqb place x.0)) (x.0 ∷ without place (places_of xs)) (without place (places_of xs)) keeps)
      | inr drops ↦ ap places_of (cond-false (not (eqb place x.0)) (x ∷ but_at place xs) (but_at place xs) drops) ∙ places_of-but place xs ∙ sym (cond-false (not (eqb place x.0)) (x.0 ∷ without place (places_of xs)) (without place (places_of xs)) drops)
    ]
