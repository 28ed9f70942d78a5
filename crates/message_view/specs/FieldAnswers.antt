-- Inner: what a reader of the fields keeps of them.
use Rattle.std.specs.Prelude.{◌≡◌, ℕ, ◌+◌, ◌-◌, List, [], ◌∷◌, ◌++◌, length, map, option_map, Option, Some, None, Result, Ok, Err}
use Rattle.message_value.specs.declared.error.MsgError.{MsgError}
use Rattle.message_value.specs.declared.text.TextType.TheVariants as texts
use Rattle.message_value.specs.declared.order.Order.{Order}
use Rattle.message_value.specs.Value.{Value, number, text}
use Rattle.message_value.specs.Reading.{At}
use Rattle.message_value.specs.TextTypes.{text_code}
use Rattle.message_value.specs.Bytes.{AreBytes}
use Rattle.message_view.specs.declared.content.Content.{Content}
use Rattle.message_view.specs.declared.content.Content.TheVariants.{Text, Number}
use Rattle.message_view.specs.declared.fields.Fields.{Fields}
use Rattle.message_view.specs.declared.field.FieldCode.{FieldCode}
use Rattle.message_view.specs.declared.field.FieldCode.TheVariants.{Path, Interface, Member, ErrorName, ReplySerial, Destination, Sender, Signature, UnixFds}
use Rattle.message_view.specs.declared.field.FieldType.{FieldType}
use Rattle.message_view.specs.declared.field.FieldType.TheVariants as types
use Rattle.message_view.specs.declared.extent.Extent.{Extent}
use Rattle.message_view.specs.Message.{Field}
use Rattle.message_view.specs.Spelling.{fields_bytes}
use Rattle.message_view.specs.Slots.{Slots, Extents, AreExtents, no_slots, no_extents, slots_of}

-- a field's content as the value that it is
abbrev pub value_of : Content → Value
value_of (Text t extent) = text t.now
value_of (Number n) = number n

-- where its text lies, if it is one
abbrev pub lies_in : Option Content → Option Extent
lies_in (Some (Text t extent)) = Some extent
lies_in _ = None

-- where a text lies whose zero byte is the last one before a place
abbrev pub extent_before : ℕ → Value → Option Extent
extent_before end (text bytes) = Some (record { place = end - 1 - length bytes; len = length bytes })
extent_before end _ = None

-- the text of a content, if it is one, lies there
abbrev pub LiesBefore : ℕ → Content → Type 0
LiesBefore end content = lies_in (Some content) ≡ extent_before end (value_of content)

-- the type of a field's value, as the code has it
abbrev pub type_of : FieldCode → FieldType
type_of Path = types.Text texts.ObjectPath
type_of Interface = types.Text texts.String
type_of Member = types.Text texts.String
type_of ErrorName = types.Text texts.String
type_of ReplySerial = types.Number
type_of Destination = types.Text texts.String
type_of Sender = types.Text texts.String
type_of Signature = types.Text texts.Signature
type_of UnixFds = types.Number

-- the basic code of a field's type
abbrev pub type_code_of : FieldType → ℕ
type_code_of (types.Text t) = text_code t
type_code_of types.Number = 117

-- the values that are kept of the known fields
abbrev pub slots_shown : Fields → Slots
slots_shown fields = map (option_map value_of) fields.slots

-- where the texts lie that are kept of the known fields
abbrev pub lying : Fields → Extents
lying fields = map lies_in fields.slots

-- what is kept is that of the fields in front, after which reading stands
pub record IsFront (order : Order) (start : ℕ) (front : List Field) (fields : Fields) (at : At) : Type 0 where
  pub shows : slots_shown fields ≡ slots_of front
  pub lie : AreExtents order start front (lying fields)
  pub fits : AreBytes at.rest
  pub place : at.place ≡ start + length (fields_bytes order start front)

-- What a reader of the next field answers, and what it then keeps: reading gives one field after those in front.
abbrev pub KeepsNext : {X : Type 0} → Result X MsgError → Order → ℕ → List Field → Fields → At → Result (Field × At) MsgError → Type 0
KeepsNext (Ok x) order start front fields tail read = (field : Field) × (read ≡ Ok (field, tail)) × IsFront order start (front ++ field ∷ []) fields tail
KeepsNext (Err fault) order start front fields tail read = read ≡ Err fault

-- what was filled in place, if it was
abbrev pub in_place : {X Y : Type 0} → Result X MsgError → Y → Result Y MsgError
in_place (Ok x) y = Ok y
in_place (Err fault) y = Err fault

-- nothing is kept of any field
abbrev pub KeepsNone : Fields → Type 0
KeepsNone fields = (slots_shown fields ≡ no_slots) × (lying fields ≡ no_extents)

-- what the next field of a valid array is, and what is then kept
abbrev pub KeepsField : Order → ℕ → List Field → Fields → At → Result (Field × At) MsgError → Type 0
KeepsField order start front fields tail read = (field : Field) × (read ≡ Ok (field, tail)) × IsFront order start (front ++ field ∷ []) fields tail
