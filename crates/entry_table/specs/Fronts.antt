-- Inner: the fronts of a text that end before a divider.
use Rattle.std.specs.Prelude.{ℕ, Bool, true, false, List, [], ◌∷◌, ◌++◌, map, Option, Some, None, ◌==◌, if◌then◌else◌}
use Rattle.std.specs.Str.{bytes_eq}

-- the fronts of a text after which the divider stands, the longest first
abbrev pub shorter_fronts : ℕ → List ℕ → List (List ℕ)
shorter_fronts divider [] = []
shorter_fronts divider (x ∷ xs) =
    map (λ (front : List ℕ). x ∷ front) (shorter_fronts divider xs) ++ (if x == divider then [] ∷ [] else [])

-- the texts that come after this one, where a namespace is looked up: its shorter fronts
abbrev pub fronts_after : Bool → ℕ → Option (List ℕ) → List (Option (List ℕ))
fronts_after false divider text = []
fronts_after true divider None = []
fronts_after true divider (Some text) = map (λ (front : List ℕ). Some front) (shorter_fronts divider text)

-- a path namespace as the front of a path: of `/`, which has every path, nothing is left
abbrev pub namespace_front : List ℕ → List ℕ
namespace_front namespace = if bytes_eq namespace (47 ∷ []) then [] else namespace
