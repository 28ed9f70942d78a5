-- Values as trees, with none of their bytes (D-Bus Specification, "Type System").
use Rattle.std.specs.Prelude.{ℕ, List, [], ◌∷◌}
use Rattle.signature.specs.DataType.{DataType}

-- A value, in the shape of its type: a number has the bits of its bytes, whatever they stand for; a
-- variant has a type of its own.
mutual
  pub data Value : Type 0 where
    number : (bits : ℕ) → Value
    text : (bytes : List ℕ) → Value
    elements : Values → Value
    entries : Entries → Value
    members : Values → Value
    of_type : (type : DataType) → Value → Value

  pub data Values : Type 0 where
    no_values : Values
    one_value : Value → Values → Values

  pub data Entries : Type 0 where
    no_entries : Entries
    one_entry : (key value : Value) → Entries → Entries

abbrev pub values_of : List Value → Values
values_of [] = no_values
values_of (value ∷ more) = one_value value (values_of more)

abbrev pub entries_of : List (Value × Value) → Entries
entries_of [] = no_entries
entries_of (entry ∷ more) = one_entry entry.0 entry.1 (entries_of more)
