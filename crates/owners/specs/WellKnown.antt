-- Names that a connection may ask for (D-Bus Specification, "Valid Names", "Bus names").
use Rattle.std.specs.Prelude.{ℕ, Bool, false, not, List, [], ◌∷◌, Result, Ok, Err, ◌==◌, ◌&&◌, if◌then◌else◌}
use Rattle.std.specs.Str.{bytes_eq}
use Rattle.signature.specs.Name.{is_bus_name, bus_name}
use Rattle.owners.specs.declared.error.ClaimError.{ClaimError}
use Rattle.owners.specs.declared.error.ClaimError.TheVariants.{BadName, Reserved}

-- a name that begins with a colon is a unique connection name
abbrev pub is_unique : List ℕ → Bool
is_unique [] = false
is_unique (b ∷ rest) = b == 58

abbrev pub is_well_known : List ℕ → Bool
is_well_known name = is_bus_name name && not (is_unique name)

-- what a text is as a name that a connection asks for
abbrev pub name_in : List ℕ → Result (List ℕ) ClaimError
name_in text = if bytes_eq text bus_name then Err Reserved else if is_well_known text then Ok text else Err BadName
