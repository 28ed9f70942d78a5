-- Numbers above 0 among the words of a command line (own).
use Rattle.std.specs.Prelude.{ℕ, ◌^◌, nat_lt, ◌==◌, ◌&&◌, not, List, length, Option, Some, None, if◌then◌else◌}
use Rattle.std.specs.Char.{is_ascii_digit}
use Rattle.std.specs.List.{list_all}
use Rattle.std.specs.Str.Parse.{digits_value}

-- a number is decimal digits and nothing else, as many as there are, and fits 64 bits
abbrev pub number_in : List ℕ → Option ℕ
number_in word =
    if list_all is_ascii_digit word && not (length word == 0) && nat_lt (digits_value 10 word) (2 ^ 64)
    then Some (digits_value 10 word) else None

abbrev pub above_0 : Option ℕ → Option ℕ
above_0 None = None
above_0 (Some number) = if number == 0 then None else Some number

-- the number above 0 that a word is
abbrev pub number_of : List ℕ → Option ℕ
number_of word = above_0 (number_in word)
