-- The quoting of values (D-Bus Specification, "Match Rules").
use Rattle.std.specs.Prelude.{ℕ, List, [], ◌∷◌, ◌++◌, ◌==◌, codes, if◌then◌else◌}
use Rattle.std.specs.List.{flat_map}

-- An apostrophe can't stand between apostrophes: the quoting ends, a backslash makes an apostrophe of the next byte,
-- and the quoting begins again.
abbrev pub escape_of : ℕ → List ℕ
escape_of byte = if byte == 39 then codes "'\\''" else byte ∷ []

abbrev pub escaped_text : List ℕ → List ℕ
escaped_text value = flat_map escape_of value

abbrev pub quoted_text : List ℕ → List ℕ
quoted_text value = codes "'" ++ escaped_text value ++ codes "'"
