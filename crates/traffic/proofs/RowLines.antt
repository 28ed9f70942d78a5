-- The lines of the rows up to a place, and of one row more.
use Rattle.std.proofs.Common.{◌≡◌, ℕ, zero, suc, ◌+◌, List, [], ◌∷◌, ◌++◌, Option, take, refl, sym, ap, ◌∙◌, append_assoc, add-one}
use Rattle.std.specs.Prelude.{slice_get}
use Rattle.std.specs.List.{flat_map}
use Rattle.std.specs.Option.{option_to_list}

-- the rows up to a place and the one there, if there is one
next : {X : Type 0} (line : X → List ℕ) (rows : List X) (place : ℕ) → flat_map line (take (suc place) rows) ≡ flat_map line (take place rows) ++ flat_map line (option_to_list (slice_get rows place))
next line [] zero = refl
next line [] (suc place) = refl
next line (row ∷ rows) zero = refl
next line (row ∷ rows) (suc place) =
    ap (λ (later : List ℕ). line row ++ later) (next line rows place) ∙ sym (append_assoc (line row) (flat_map line (take place rows)) (flat_map line (option_to_list (slice_get rows place))))

-- a text that has the lines up to a place, with the line of the next row
pub line_added : {X : Type 0} (line : X → List ℕ) (rows : List X) (place : ℕ) (got : Option X) (first before after : List ℕ) → got ≡ slice_get rows place → before ≡ first ++ flat_map line (take place rows) → after ≡ before ++ flat_map line (option_to_list got) → after ≡ first ++ flat_map line (take (place + 1) rows)
line_added {X = X} line rows place got first before after is begun added =
    added
    ∙ ap (λ (text : List ℕ). text ++ flat_map line (option_to_list got)) begun
    ∙ append_assoc first (flat_map line (take place rows)) (flat_map line (option_to_list got))
    ∙ ap (λ (found : Option X). first ++ (flat_map line (take place rows) ++ flat_map line (option_to_list found))) is
    ∙ ap (λ (text : List ℕ). first ++ text) (sym (next line rows place))
    ∙ ap (λ (n : ℕ). first ++ flat_map line (take n rows)) (sym (add-one place))
