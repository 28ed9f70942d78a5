-- Texts as they are shown, so that a terminal takes none of them for a command (own).
use Rattle.std.specs.Prelude.{ℕ, ◌+◌, ◌/◌, ◌%◌, List, [], ◌∷◌, ◌++◌, codes, ◌==◌, ◌||◌, ◌&&◌, nat_le, if◌then◌else◌}
use Rattle.std.specs.List.{flat_map}

-- a backslash stands before an apostrophe and before itself, and before the three octal digits of a byte that isn't a
-- printable character of ASCII
abbrev pub escape_of : ℕ → List ℕ
escape_of byte =
    if byte == 39 || byte == 92 then 92 ∷ byte ∷ []
    else if nat_le 32 byte && nat_le byte 126 then byte ∷ []
    else 92 ∷ (48 + byte / 64) ∷ (48 + byte / 8 % 8) ∷ (48 + byte % 8) ∷ []

abbrev pub escaped_text : List ℕ → List ℕ
escaped_text text = flat_map escape_of text

-- between apostrophes
abbrev pub quoted_text : List ℕ → List ℕ
quoted_text text = codes "'" ++ escaped_text text ++ codes "'"
