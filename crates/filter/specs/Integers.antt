-- The integers of filter expressions: decimal, or hexadecimal after 0x, with a `-` in front or none (own).
use Rattle.std.specs.Prelude.{ℕ, ◌+◌, ◌-◌, ◌*◌, ◌^◌, List, [], ◌∷◌, length, drop, Option, Some, None, option_map, not, ◌&&◌, ◌==◌, nat_lt, nat_le, if◌then◌else◌, slice_index}
use Rattle.std.specs.Option.{option_and_then}
use Rattle.std.specs.Char.{digit_value}
use Rattle.std.specs.List.{list_all}
use Rattle.std.specs.Str.Parse.{digits_value}
use Rattle.filter.specs.declared.integer.Integer.{Integer}
use Rattle.filter.specs.declared.integer.Integer.TheVariants.{Natural, Negative}

-- the number that digits of a base write, if it fits 64 bits
unfoldable pub number_in : ℕ → List ℕ → Option ℕ
number_in base digits =
    if not (length digits == 0) && list_all (λ d. nat_lt (digit_value d) base) digits && nat_lt (digits_value base digits) (2 ^ 64)
    then Some (digits_value base digits) else None

abbrev pub magnitude_of : List ℕ → Option ℕ
magnitude_of word =
    if slice_index word 0 == 48 && slice_index word 1 == 120 then number_in 16 (drop 2 word) else number_in 10 word

-- the integer of a magnitude after a `-`, from -2^63 on
abbrev pub negative_of : ℕ → Option Integer
negative_of magnitude =
    if magnitude == 0 then Some (Natural 0)
    else if nat_le magnitude (2 ^ 63) then Some (Negative (magnitude - 1))
    else None

abbrev pub integer_of : List ℕ → Option Integer
integer_of [] = option_map Natural (magnitude_of [])
integer_of (b ∷ bs) = if b == 45 then option_and_then negative_of (magnitude_of bs) else option_map Natural (magnitude_of (b ∷ bs))

-- Inner: a number with one more digit, if that is one of the base and it fits 64 bits
abbrev pub with_digit_of : ℕ → ℕ → ℕ → Option ℕ
with_digit_of base number digit =
    if nat_lt (digit_value digit) base && nat_lt (number * base + digit_value digit) (2 ^ 64) then Some (number * base + digit_value digit) else None
