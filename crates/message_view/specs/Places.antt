-- Where the texts of a message lie in its bytes (D-Bus Specification, "Message Format").
use Rattle.std.specs.Prelude.{◌≡◌, ℕ, ◌+◌, ◌≤◌, List, [], ◌∷◌, length, take, drop, Option, Some, None, IfSome, option_map, ◌==◌, if◌then◌else◌}
use Rattle.message_value.specs.Arguments.{Argument}
use Rattle.message_value.specs.declared.order.Order.{Order}
use Rattle.message_value.specs.Spelling.{align_up}
use Rattle.message_view.specs.declared.extent.Extent.{Extent}
use Rattle.message_view.specs.declared.extent.TextField.{TextField}
use Rattle.message_view.specs.declared.extent.TextField.TheVariants.{Path, Interface, Member, ErrorName, Destination, Sender}
use Rattle.message_view.specs.Message.{Field, Message, field_with, text_in}
use Rattle.message_view.specs.Spelling.{fixed_len, field_value_place, field_bytes}

-- the code of a field that is a text
abbrev pub text_field_code : TextField → ℕ
text_field_code Path = 1
text_field_code Interface = 2
text_field_code Member = 3
text_field_code ErrorName = 4
text_field_code Destination = 6
text_field_code Sender = 7

-- the text of a field at a place: it stands after its length, which is a word
abbrev pub text_extent : ℕ → Field → Option Extent
text_extent place field =
    option_map (λ bytes. record { place = align_up 4 (field_value_place place field) + 4; len = length bytes }) (text_in (Some field.value))

-- the text of the first field of a code, among fields from a place on
abbrev pub extent_from : Order → ℕ → ℕ → List Field → Option Extent
extent_from order place code [] = None
extent_from order place code (field ∷ fields) =
    if field.code == code then text_extent place field
    else extent_from order (place + length (field_bytes order place field)) code fields

-- where the text of a field lies, counted from the message's start, if the field is there
abbrev pub extent_of : TextField → Message → Option Extent
extent_of field m = extent_from m.order fixed_len (text_field_code field) m.fields

-- the text of a field
abbrev pub text_of : TextField → Message → Option (List ℕ)
text_of field m = text_in (field_with (text_field_code field) m.fields)

-- bytes from a place on, as many as a length
abbrev pub slice_at : List ℕ → ℕ → ℕ → List ℕ
slice_at bytes place len = take len (drop place bytes)

-- a text is the slice of the bytes at a place; where there is no text there is no place
abbrev pub IsSlice : List ℕ → Option Extent → Option (List ℕ) → Type 0
IsSlice bytes (Some extent) (Some text) = (extent.place + extent.len ≤ length bytes) × (slice_at bytes extent.place extent.len ≡ text)
IsSlice bytes None None = Unit {0}
IsSlice bytes _ _ = ⊥

-- an argument lies in the bytes, and its text, if it is one, is the slice there
abbrev pub LiesIn : List ℕ → Argument → Type 0
LiesIn bytes a = (a.place + a.len ≤ length bytes) × IfSome a.text (λ text. slice_at bytes a.place a.len ≡ text)
