-- Escapes in the values of addresses (D-Bus Specification, "Server Addresses").
use Rattle.std.specs.Prelude.{ℕ, ◌==◌, Bool, true, false, List, [], ◌∷◌, Option, Some, None, if◌then◌else◌}
use Rattle.std.specs.Char.{is_ascii_hexdigit}
use Rattle.endpoints.specs.declared.escapes.Awaited.{Awaited}
use Rattle.endpoints.specs.declared.escapes.Awaited.TheVariants.{AnyByte, TwoDigits, OneDigit}

-- what has to come after a byte that may stand where this is awaited: two hexadecimal digits after `%`
abbrev pub after : Awaited → ℕ → Option Awaited
after AnyByte byte = if byte == 37 then Some TwoDigits else Some AnyByte
after TwoDigits byte = if is_ascii_hexdigit byte then Some OneDigit else None
after OneDigit byte = if is_ascii_hexdigit byte then Some AnyByte else None

-- the bytes may stand where this is awaited, and no escape is cut off at their end
abbrev pub whole_from : Option Awaited → List ℕ → Bool
whole_from None bytes = false
whole_from (Some AnyByte) [] = true
whole_from (Some awaited) [] = false
whole_from (Some awaited) (byte ∷ bytes) = whole_from (after awaited byte) bytes

-- two hexadecimal digits come after each `%`
abbrev pub has_whole_escapes : List ℕ → Bool
has_whole_escapes value = whole_from (Some AnyByte) value
