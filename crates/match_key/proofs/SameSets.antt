-- A test of equality of lists as sets.
use Rattle.std.specs.Prelude.{◌≡◌, Bool, true, List, Contains, slice_index_or}
use Rattle.std.specs.List.{list_all, list_any}
use Rattle.std.specs.Bool.{Decides}
use Rattle.std.proofs.Common.{refl, sym, ap, ◌∙◌, subst}
use Rattle.std.proofs.lemmas.List.Sums.{AllPass-from_list_all, list_all-from_AllPass}
use Rattle.std.proofs.lemmas.List.Folds.{Any-from_list_any, list_any-from_Any}
use Rattle.std.proofs.lemmas.List.Elements.{All-contains_itself}

-- each of these is among the others, by a test of equality
abbrev pub are_in : {A : Type 0} → (A → A → Bool) → List A → List A → Bool
are_in same xs ys = list_all (λ c. list_any (λ d. same d c) ys) xs

pub in_decides : {A : Type 0} (same : A → A → Bool) → ((a b : A) → Decides (same a b) (a ≡ b)) → (xs ys : List A) → Decides (are_in same xs ys) ((c : A) → Contains xs c → Contains ys c)
in_decides {A = A} same decides xs ys = (forth, back)
  where
    forth : are_in same xs ys ≡ true → (c : A) → Contains xs c → Contains ys c
    forth e c found =
        let test = AllPass-from_list_all (λ c. list_any (λ d. same d c) ys) xs e found.0 c found.1 in
        let other = Any-from_list_any (λ d. same d c) ys (ap (λ c. list_any (λ d. same d c) ys) (sym found.2) ∙ test) in
        let is = (decides other.1 c).0 other.4 in
        let P : A → Type 0 = Contains ys in
        subst P is (other.0, other.2, other.3)

    back : ((c : A) → Contains xs c → Contains ys c) → are_in same xs ys ≡ true
    back within = list_all-from_AllPass (λ c. list_any (λ d. same d c) ys) xs (λ k d lt.
        let c = slice_index_or xs k d in
        let found = within c (All-contains_itself xs k d lt) in
        list_any-from_Any (λ d. same d c) ys (found.0, c, found.1, found.2, (decides c c).1 refl))
