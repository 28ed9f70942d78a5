-- Reading a message from left to right, with the first fault that is met (own; which bytes are messages is in
-- Valid.antt).
use Rattle.std.specs.Prelude.{ℕ, zero, suc, ◌+◌, Bool, false, not, List, [], ◌∷◌, ◌++◌, length, take, drop, slice_index, Option, Some, None, is_some, Result, Ok, Err, nat_lt, ◌==◌, ◌&&◌, if◌then◌else◌}
use Rattle.std.specs.List.{list_all}
use Rattle.signature.specs.DataType.{DataType, DataTypes, basic, no_types}
use Rattle.signature.specs.Trees.{types_of}
use Rattle.message_value.specs.declared.order.Order.{Order}
use Rattle.message_value.specs.declared.error.MsgError.{MsgError}
use Rattle.message_value.specs.declared.error.MsgError.TheVariants as faults
use Rattle.message_value.specs.Value.{Value, Values, number, text}
use Rattle.message_value.specs.Spelling.{padding}
use Rattle.message_value.specs.Fits.{max_levels}
use Rattle.message_value.specs.Reading.{◌>>=◌, At, inside, aligned_at, byte_at, signature_at, value_at, members_at}
use Rattle.message_view.specs.declared.kind.Kind.{Kind}
use Rattle.message_view.specs.declared.field.FieldCode.{FieldCode}
use Rattle.message_view.specs.declared.field.FieldCode.TheVariants.{ReplySerial}
use Rattle.message_view.specs.Header.{kind_of, code_of, type_code, is_named_well, is_reserved, is_number_allowed, has_required}
use Rattle.message_view.specs.Message.{Field, field_with, signature_in, Message}
use Rattle.message_view.specs.Spelling.{field_alignment, fixed_len, body_place}
use Rattle.message_view.specs.Valid.{levels_in_field}
use Rattle.message_view.specs.Fixed.{order_in, serial_in, fields_len, framing}

-- ---- fields

-- the fault of a number that a field may not have
abbrev pub number_fault : FieldCode → MsgError
number_fault ReplySerial = faults.Serial
number_fault _ = faults.UnixFds

-- the fault of what a known field holds, if it has one
abbrev pub content_fault : FieldCode → Value → Option MsgError
content_fault code (number bits) = if is_number_allowed code bits then None else Some (number_fault code)
content_fault code (text bytes) =
    if not (is_named_well code bytes) then Some faults.BadName else if is_reserved code bytes then Some faults.Reserved else None
content_fault code _ = None

abbrev pub or_fault : {A : Type 0} → Option MsgError → A → Result A MsgError
or_fault (Some fault) x = Err fault
or_fault None x = Ok x

abbrev pub is_basic_of : ℕ → DataType → Bool
is_basic_of code (basic other) = other == code
is_basic_of code _ = false

-- a known field has the type of its row
abbrev pub type_fault : Option FieldCode → DataType → Option MsgError
type_fault (Some code) type = if is_basic_of (type_code code) type then None else Some faults.FieldType
type_fault None type = None

-- the fault of what a field holds, if it is known and has one
abbrev pub known_fault : Option FieldCode → Value → Option MsgError
known_fault (Some code) value = content_fault code value
known_fault None value = None

-- the type of the variant that a field holds, and its value
unfoldable pub content_at : Order → Option FieldCode → At → Result ((DataType × Value) × At) MsgError
content_at order known at = do
  type ← signature_at at
  start ← or_fault (type_fault known type.0) type.1
  value ← value_at levels_in_field order type.0 start
  or_fault (known_fault known value.0) ((type.0, value.0), value.1)

-- a known field whose code is in front comes a second time
abbrev pub code_fault : List Field → ℕ → Option MsgError
code_fault front code =
    if code == 0 then Some faults.FieldCode
    else if is_some (code_of code) && is_some (field_with code front) then Some faults.FieldTwice
    else None

-- the code of a field, after its padding
unfoldable pub code_at : List Field → At → Result (ℕ × At) MsgError
code_at front at = do
  start ← aligned_at field_alignment at
  code ← byte_at start
  or_fault (code_fault front code.0) code

-- one field
unfoldable pub field_at : Order → List Field → At → Result (Field × At) MsgError
field_at order front at = do
  code ← code_at front at
  content ← content_at order (code_of code.0) code.1
  Ok (record { code = code.0; type = content.0.0; value = content.0.1 }, content.1)

-- The fields after those in front, to the end of the array. Each has at least a byte, so that as many turns as the
-- array has bytes are enough.
abbrev pub fields_from : ℕ → Order → List Field → At → Result (List Field) MsgError
fields_from zero order front at = Ok front
fields_from (suc turns) order front at =
    if length at.rest == 0 then Ok front
    else (field_at order front at >>= λ field. fields_from turns order (front ++ field.0 ∷ []) field.1)

-- the array of fields
abbrev pub fields_of : List ℕ → Result (List Field) MsgError
fields_of bytes =
    fields_from (fields_len bytes) (order_in bytes) [] (inside fixed_len (take (fields_len bytes) (drop fixed_len bytes)))

-- ---- the body

-- the zeros between the fields and the body
abbrev pub header_padding : List ℕ → List ℕ
header_padding bytes = take (padding 8 (fields_len bytes)) (drop (fixed_len + fields_len bytes) bytes)

-- the fault of what lies between the fields and the body, if there is one
abbrev pub header_fault : Kind → List ℕ → List Field → Option MsgError
header_fault kind skipped fields =
    if not (has_required kind fields) then Some faults.FieldMissing
    else if not (list_all (λ byte. byte == 0) skipped) then Some faults.Padding
    else None

abbrev pub or_no_types : Option DataTypes → DataTypes
or_no_types (Some types) = types
or_no_types None = no_types

-- the types of the arguments
abbrev pub types_in : List Field → DataTypes
types_in fields = or_no_types (types_of (signature_in fields))

-- the body's bytes at a place
abbrev pub in_body : ℕ → List ℕ → At
in_body place bytes = record { place = place; rest = bytes; outside = faults.Short }

abbrev pub all_read : {A : Type 0} → A × At → Result A MsgError
all_read found = if length found.1.rest == 0 then Ok found.0 else Err faults.Trailing

-- the arguments, which are all of the body
unfoldable pub arguments_at : Order → DataTypes → At → Result Values MsgError
arguments_at order types at = members_at (value_at max_levels order) types at >>= all_read

abbrev pub body_at : List ℕ → At
body_at bytes = in_body (body_place (fields_len bytes)) (drop (body_place (fields_len bytes)) bytes)

-- ---- the message

-- the message of the fixed part, the fields and the arguments
abbrev pub message_of : List ℕ → Kind → List Field → Values → Message
message_of bytes kind fields arguments =
    record { order = order_in bytes; kind = kind; flags = slice_index bytes 2; serial = serial_in bytes; fields = fields; types = types_in fields; arguments = arguments }

abbrev pub or_kind : Option Kind → Result Kind MsgError
or_kind (Some kind) = Ok kind
or_kind None = Err faults.Kind

-- the message of bytes whose fixed part has no fault, and whose length is the one that it says
unfoldable pub framed_message : List ℕ → Result Message MsgError
framed_message bytes = do
  kind ← or_kind (kind_of (slice_index bytes 1))
  fields ← fields_of bytes
  known ← or_fault (header_fault kind (header_padding bytes) fields) fields
  arguments ← arguments_at (order_in bytes) (types_in known) (body_at bytes)
  Ok (message_of bytes kind known arguments)

-- the length that the fixed part says, where all of it is there
abbrev pub or_short : Option ℕ → Result ℕ MsgError
or_short (Some len) = Ok len
or_short None = Err faults.Short

-- the message of bytes that have the length that it says
abbrev pub of_len : ℕ → List ℕ → Result Message MsgError
of_len len bytes =
    if nat_lt (length bytes) len then Err faults.Short
    else if nat_lt len (length bytes) then Err faults.Trailing
    else framed_message bytes

-- the message, or the first fault
unfoldable pub message_at : List ℕ → Result Message MsgError
message_at bytes = do
  sections_of_frame ← framing bytes
  len ← or_short sections_of_frame
  of_len len bytes
