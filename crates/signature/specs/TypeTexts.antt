-- Inner: a signature cut after each complete type.
use Rattle.std.specs.Prelude.{ℕ, ◌+◌, Bool, List, [], ◌∷◌, ◌++◌, is_none, if◌then◌else◌}
use Rattle.signature.specs.declared.awaited.Awaited.{Awaited}
use Rattle.signature.specs.Code.{code_of}
use Rattle.signature.specs.Reading.{innermost, next}

abbrev pub is_closed : List Awaited → Bool
is_closed stack = is_none (innermost stack)

-- how long the complete type is at whose middle these are open
abbrev pub type_len_from : List Awaited → List ℕ → ℕ
type_len_from stack [] = 0
type_len_from stack (c ∷ cs) = if is_closed (next stack (code_of c)) then 1 else type_len_from (next stack (code_of c)) cs + 1

-- the text cut after each complete type, the first of which begins with front
abbrev pub cut_from : List Awaited → List ℕ → List ℕ → List (List ℕ)
cut_from stack front [] = []
cut_from stack front (c ∷ cs) =
    if is_closed (next stack (code_of c)) then (front ++ c ∷ []) ∷ cut_from [] [] cs
    else cut_from (next stack (code_of c)) (front ++ c ∷ []) cs

-- the text of each complete type of a signature
abbrev pub type_texts : List ℕ → List (List ℕ)
type_texts text = cut_from [] [] text
