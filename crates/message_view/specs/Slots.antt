-- Inner: the known fields in the order of their codes.
use Rattle.std.specs.Prelude.{◌≡◌, ℕ, List, [], ◌∷◌, map, slice_index_or, Option, None}
use Rattle.message_value.specs.declared.order.Order.{Order}
use Rattle.message_value.specs.Value.{Value}
use Rattle.message_view.specs.declared.kind.Kind.{Kind}
use Rattle.message_view.specs.declared.field.FieldCode.{FieldCode}
use Rattle.message_view.specs.declared.field.FieldCode.TheVariants.{Path, Interface, Member, ErrorName, ReplySerial, Destination, Sender, Signature, UnixFds}
use Rattle.message_view.specs.declared.extent.Extent.{Extent}
use Rattle.message_view.specs.declared.extent.TextField.{TextField}
use Rattle.message_view.specs.declared.extent.TextField.TheVariants as names
use Rattle.message_view.specs.Message.{Field, field_with, text_in, number_in, Message}
use Rattle.message_view.specs.Places.{text_field_code, extent_from, extent_of}

abbrev pub code_byte : FieldCode → ℕ
code_byte Path = 1
code_byte Interface = 2
code_byte Member = 3
code_byte ErrorName = 4
code_byte ReplySerial = 5
code_byte Destination = 6
code_byte Sender = 7
code_byte Signature = 8
code_byte UnixFds = 9

-- where a field's value is kept
abbrev pub slot_of : FieldCode → ℕ
slot_of Path = 0
slot_of Interface = 1
slot_of Member = 2
slot_of ErrorName = 3
slot_of ReplySerial = 4
slot_of Destination = 5
slot_of Sender = 6
slot_of Signature = 7
slot_of UnixFds = 8

abbrev pub Slots : Type 0
Slots = List (Option Value)

abbrev pub no_slots : Slots
no_slots = None ∷ None ∷ None ∷ None ∷ None ∷ None ∷ None ∷ None ∷ None ∷ []

-- the value of each known field, if it is there
abbrev pub slots_of : List Field → Slots
slots_of fields =
    field_with 1 fields ∷ field_with 2 fields ∷ field_with 3 fields ∷ field_with 4 fields ∷ field_with 5 fields
    ∷ field_with 6 fields ∷ field_with 7 fields ∷ field_with 8 fields ∷ field_with 9 fields ∷ []

-- the field that a text field is
abbrev pub named_code : TextField → FieldCode
named_code names.Path = Path
named_code names.Interface = Interface
named_code names.Member = Member
named_code names.ErrorName = ErrorName
named_code names.Destination = Destination
named_code names.Sender = Sender

-- each text field
abbrev pub text_fields : List TextField
text_fields = names.Path ∷ names.Interface ∷ names.Member ∷ names.ErrorName ∷ names.Destination ∷ names.Sender ∷ []

-- the extents of the texts in their slots
abbrev pub Extents : Type 0
Extents = List (Option Extent)

-- before any text was read
abbrev pub no_extents : Extents
no_extents = None ∷ None ∷ None ∷ None ∷ None ∷ None ∷ None ∷ None ∷ None ∷ []

-- where the text of a field lies
abbrev pub extent_in : Extents → TextField → Option Extent
extent_in extents field = slice_index_or extents (slot_of (named_code field)) None

-- those of the fields that are texts
abbrev pub extents_in : Extents → List (Option Extent)
extents_in extents = map (extent_in extents) text_fields

-- the extents are those of the fields from a place on
abbrev pub AreExtents : Order → ℕ → List Field → Extents → Type 0
AreExtents order place fields extents = (name : TextField) → extent_in extents name ≡ extent_from order place (text_field_code name) fields

-- what is kept of a message beside its bytes: the text or the number of each known field, and where the texts lie
pub record Kept : Type 0 where
  pub order : Order
  pub kind : Kind
  pub flags : ℕ
  pub serial : ℕ
  pub texts : List (Option (List ℕ))
  pub numbers : List (Option ℕ)
  pub extents : List (Option Extent)

-- of a message that has these slots
abbrev pub kept_of : Message → Slots → Kept
kept_of m slots = record { order = m.order; kind = m.kind; flags = m.flags; serial = m.serial; texts = map text_in slots; numbers = map number_in slots; extents = map (λ field. extent_of field m) text_fields }
