-- Text that a terminal takes for nothing but text (own).
use Rattle.std.specs.Prelude.{ℕ, Bool, List, nat_le, ◌&&◌, ◌∷◌, [], ◌++◌, ◌≡◌, true}
use Rattle.std.specs.List.{list_all}

-- the characters of ASCII that aren't control characters
abbrev pub is_printable : ℕ → Bool
is_printable b = nat_le 32 b && nat_le b 126

-- printable characters, and a line feed after them
pub record IsOneLine (bytes : List ℕ) : Type 0 where
  pub text : List ℕ
  pub printable : list_all is_printable text ≡ true
  pub ends : bytes ≡ text ++ 10 ∷ []
