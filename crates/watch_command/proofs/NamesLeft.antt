-- The names among words, from a place on.
use Rattle.std.proofs.Common.{◌≡◌, ℕ, suc, ◌+◌, ◌<◌, List, [], ◌∷◌, ◌++◌, Option, Some, None, length, get_or, drop, refl, sym, ap, ◌∙◌, append_assoc, add-one, drop-cons}
use Rattle.watch_command.specs.declared.words.Word.{Word}
use Rattle.watch_command.specs.Sayings.{saying_of, sayings_of, name_in}
use Rattle.watch_command.specs.Options.{names, name_before}

one_before : (name : Option (List ℕ)) (later : List (List ℕ)) → name_before name later ≡ name_before name [] ++ later
one_before (Some text) later = refl
one_before None later = refl

names_at : (words : List Word) (i : ℕ) (d : Word) → i < length words → names (sayings_of (drop i words)) ≡ names (saying_of (get_or words i d) ∷ []) ++ names (sayings_of (drop (i + 1) words))
names_at words i d h =
    rw add-one (ap (λ (left : List Word). names (sayings_of left)) (drop-cons words i d h)
    ∙ one_before (name_in (saying_of (get_or words i d))) (names (sayings_of (drop (suc i) words))))

-- the name that a word is, if it is one, is added to those that were found
pub name_added : (words : List Word) (i : ℕ) (d : Word) (found new all : List (List ℕ)) → i < length words → new ≡ found ++ names (saying_of (get_or words i d) ∷ []) → found ++ names (sayings_of (drop i words)) ≡ all → new ++ names (sayings_of (drop (i + 1) words)) ≡ all
name_added words i d found new all h is before =
    let later : List (List ℕ) = names (sayings_of (drop (i + 1) words)) in
    ap (λ (t : List (List ℕ)). t ++ later) is
    ∙ append_assoc found (names (saying_of (get_or words i d) ∷ [])) later
    ∙ ap (λ (t : List (List ℕ)). found ++ t) (sym (names_at words i d h))
    ∙ before
