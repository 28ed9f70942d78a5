-- What is found in tables of words.
use Rattle.std.proofs.Common.{◌≡◌, ℕ, Bool, true, false, cond, List, [], ◌∷◌, refl, ap, ◌∙◌}
use Rattle.std.specs.Prelude.{Some}
use Rattle.std.specs.List.{list_all}
use Rattle.std.specs.Str.{bytes_eq}
use Rattle.std.proofs.lemmas.Bool.{and_parts}
use Rattle.std.proofs.lemmas.Slice.Eq.{bytes_eq-Decides}
use Rattle.match_key.specs.Rows.{row_of}

-- what holds of each row holds of the one that is found
pub row_found : {A : Type 0} (test : List ℕ × A → Bool) (rows : List (List ℕ × A)) (word : List ℕ) (x : A) → list_all test rows ≡ true → row_of rows word ≡ Some x → test (word, x) ≡ true
row_found test [] word x each e = absurd cc
row_found {A = A} test (row ∷ rows) word x each e = go (bytes_eq word row.0) refl e (row_found test rows word x (and_parts (test row) (list_all test rows) each).1)
  where
    go : (b : Bool) → bytes_eq word row.0 ≡ b → cond b (Some row.1) (row_of rows word) ≡ Some x → (row_of rows word ≡ Some x → test (word, x) ≡ true) → test (word, x) ≡ true
    go true is e more =
        let same : x ≡ row.1 = cc in
        ap (λ (name : List ℕ). test (name, x)) ((bytes_eq-Decides word row.0).0 is) ∙ ap (λ (y : A). test (row.0, y)) same ∙ (and_parts (test row) (list_all test rows) each).0
    go false is e more = more e
