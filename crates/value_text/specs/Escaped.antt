-- Text between quotes, as `busctl` writes it: the escapes of C, with three octal digits for a byte that has no
-- letter (the escapes of ISO C).
use Rattle.std.specs.Prelude.{ℕ, List, ◌||◌, ◌==◌, ◌+◌, ◌/◌, ◌%◌, ◌∷◌, [], if◌then◌else◌, Option, Some, None}
use Rattle.std.specs.List.{flat_map}
use Rattle.value_text.specs.Printable.{is_printable}

-- the letter that stands for a byte after a backslash
abbrev pub letter_of : ℕ → Option ℕ
letter_of b =
    if b == 7 then Some 97 else
    if b == 8 then Some 98 else
    if b == 9 then Some 116 else
    if b == 10 then Some 110 else
    if b == 11 then Some 118 else
    if b == 12 then Some 102 else
    if b == 13 then Some 114 else
    if b == 92 || b == 34 || b == 39 then Some b else None

-- a byte in octal digits
abbrev pub octal : ℕ → List ℕ
octal b = 92 ∷ (48 + b / 64) ∷ (48 + b / 8 % 8) ∷ (48 + b % 8) ∷ []

abbrev pub with_letter : ℕ → Option ℕ → List ℕ
with_letter b (Some letter) = 92 ∷ letter ∷ []
with_letter b None = if is_printable b then b ∷ [] else octal b

abbrev pub escape_of : ℕ → List ℕ
escape_of b = with_letter b (letter_of b)

abbrev pub escaped_text : List ℕ → List ℕ
escaped_text text = flat_map escape_of text
