-- Hexadecimal text (own).
use Rattle.std.specs.Prelude.{ℕ, List, Bool, not, ◌==◌, ◌||◌, filter, Option}
use Rattle.std.specs.Result.{result_ok}
use Rattle.hex.specs.Hex.{decode_of}

-- space, tab, LF and CR
abbrev pub is_blank : ℕ → Bool
is_blank byte = byte == 32 || byte == 9 || byte == 10 || byte == 13

-- the digits of a text, two for each byte, which may be of either case; blanks count for nothing, wherever they stand
abbrev pub digits_of : List ℕ → List ℕ
digits_of text = filter (λ byte. not (is_blank byte)) text

-- the bytes that a text spells, if its digits are pairs and nothing else is there
abbrev pub bytes_of_hex : List ℕ → Option (List ℕ)
bytes_of_hex text = result_ok (decode_of (digits_of text))
