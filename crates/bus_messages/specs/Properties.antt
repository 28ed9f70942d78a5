-- The properties of the bus (D-Bus Specification, "Message Bus Properties").
use Rattle.std.specs.Prelude.{ℕ, Bool, List, [], ◌∷◌, codes, Option, Some, None, ◌&&◌, ◌||◌, if◌then◌else◌}
use Rattle.std.specs.Str.{bytes_eq}
use Rattle.signature.specs.DataType.{basic, array}
use Rattle.message_value.specs.Value.{Value, Values, text, elements, entries, of_type, one_value, no_values, no_entries, one_entry}
use Rattle.bus_messages.specs.declared.property.Property.{Property}
use Rattle.bus_messages.specs.declared.property.Property.TheVariants.{Features, Interfaces}
use Rattle.bus_messages.specs.Interfaces.{bus, programs, monitoring, stats}

-- the interfaces that have properties; an empty name stands for all
abbrev pub has_properties : List ℕ → Bool
has_properties interface = bytes_eq interface (codes "") || bytes_eq interface bus

-- the property of an interface that has this name
abbrev pub property_of : List ℕ → List ℕ → Option Property
property_of interface name =
    if has_properties interface && bytes_eq name (codes "Features") then Some Features
    else if has_properties interface && bytes_eq name (codes "Interfaces") then Some Interfaces
    else None

-- strings as the elements of an array
abbrev pub strings_in : List (List ℕ) → Values
strings_in [] = no_values
strings_in (string ∷ more) = one_value (text string) (strings_in more)

-- a variant of an array of strings
abbrev pub strings : List (List ℕ) → Value
strings texts = of_type (array (basic 115)) (elements (strings_in texts))

-- The bus drops header fields that it doesn't know, which is the feature of this name. Its property Interfaces has those that
-- not each bus has.
abbrev pub value_of : Property → Value
value_of Features = strings (codes "HeaderFiltering" ∷ [])
value_of Interfaces = strings (monitoring ∷ stats ∷ programs ∷ [])

abbrev pub all_properties : Value
all_properties = entries (one_entry (text (codes "Features")) (value_of Features) (one_entry (text (codes "Interfaces")) (value_of Interfaces) no_entries))
