-- Messages as trees, with none of their bytes (D-Bus Specification, "Message Protocol").
use Rattle.std.specs.Prelude.{ℕ, List, [], ◌∷◌, Option, Some, None, ◌==◌, if◌then◌else◌}
use Rattle.signature.specs.DataType.{DataType, DataTypes}
use Rattle.message_value.specs.declared.order.Order.{Order}
use Rattle.message_value.specs.Value.{Value, Values, number, text}
use Rattle.message_view.specs.declared.kind.Kind.{Kind}

-- a header field: its code, and the variant that it holds
pub record Field : Type 0 where
  pub code : ℕ
  pub type : DataType
  pub value : Value

pub record Message : Type 0 where
  pub order : Order
  pub kind : Kind
  pub flags : ℕ
  pub serial : ℕ
  pub fields : List Field
  pub types : DataTypes
  pub arguments : Values

-- the value of the first field of a code
abbrev pub field_with : ℕ → List Field → Option Value
field_with code [] = None
field_with code (field ∷ fields) = if field.code == code then Some field.value else field_with code fields

abbrev pub text_in : Option Value → Option (List ℕ)
text_in (Some (text bytes)) = Some bytes
text_in _ = None

abbrev pub number_in : Option Value → Option ℕ
number_in (Some (number bits)) = Some bits
number_in _ = None

abbrev pub path_of : Message → Option (List ℕ)
path_of m = text_in (field_with 1 m.fields)

abbrev pub interface_of : Message → Option (List ℕ)
interface_of m = text_in (field_with 2 m.fields)

abbrev pub member_of : Message → Option (List ℕ)
member_of m = text_in (field_with 3 m.fields)

abbrev pub error_name_of : Message → Option (List ℕ)
error_name_of m = text_in (field_with 4 m.fields)

abbrev pub reply_serial_of : Message → Option ℕ
reply_serial_of m = number_in (field_with 5 m.fields)

abbrev pub destination_of : Message → Option (List ℕ)
destination_of m = text_in (field_with 6 m.fields)

abbrev pub sender_of : Message → Option (List ℕ)
sender_of m = text_in (field_with 7 m.fields)

abbrev pub or_empty : Option (List ℕ) → List ℕ
or_empty (Some bytes) = bytes
or_empty None = []

-- the signature of the body; absent means empty
abbrev pub signature_in : List Field → List ℕ
signature_in fields = or_empty (text_in (field_with 8 fields))
