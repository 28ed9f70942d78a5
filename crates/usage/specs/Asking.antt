-- Which words ask for help or for the version (own).
use Rattle.std.specs.Prelude.{◌||◌, ℕ, Bool, List, codes}
use Rattle.std.specs.List.{list_any}
use Rattle.std.specs.Str.{bytes_eq}
use Rattle.std.specs.Borrow.{Bor}

-- a word that asks for help or the version
abbrev pub is_request : List ℕ → Bool
is_request word =
    bytes_eq word (codes "--help") || bytes_eq word (codes "-h") || bytes_eq word (codes "help") || bytes_eq word (codes "--version") || bytes_eq word (codes "-V")

-- some word does
abbrev pub asks_for_text : List (Bor (List ℕ)) → Bool
asks_for_text words = list_any (λ (word : Bor (List ℕ)). is_request word.now) words
