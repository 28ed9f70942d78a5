-- The bytes of messages (D-Bus Specification, "Message Format").
use Rattle.std.specs.Prelude.{ℕ, ◌+◌, List, [], ◌∷◌, ◌++◌, length}
use Rattle.message_value.specs.declared.order.Order.{Order}
use Rattle.message_value.specs.Order.{order_byte, word_bytes}
use Rattle.message_value.specs.Spelling.{padding, align_up, zeros, signature_bytes, value_bytes, members_bytes}
use Rattle.message_value.specs.Arguments.{Argument, arguments_from}
use Rattle.message_view.specs.Header.{kind_byte}
use Rattle.message_view.specs.Message.{Field, Message}

-- the alignment of a field, which is a struct
abbrev pub field_alignment : ℕ
field_alignment = 8

-- a field's code and the signature of its variant
abbrev pub field_front : Field → List ℕ
field_front field = field.code ∷ signature_bytes field.type

-- where the value of a field's variant stands, its padding before it
abbrev pub field_value_place : ℕ → Field → ℕ
field_value_place place field = align_up field_alignment place + length (field_front field)

-- a field: the padding of a struct, its code, and its variant
abbrev pub field_bytes : Order → ℕ → Field → List ℕ
field_bytes order place field =
    zeros (padding field_alignment place) ++ (field_front field ++ value_bytes order (field_value_place place field) field.type field.value)

-- one field after the other
abbrev pub fields_bytes : Order → ℕ → List Field → List ℕ
fields_bytes order place [] = []
fields_bytes order place (field ∷ fields) =
    field_bytes order place field ++ fields_bytes order (place + length (field_bytes order place field)) fields

-- where the array of fields begins
abbrev pub fixed_len : ℕ
fixed_len = 16

-- where a body begins after `fields_len` bytes of fields
abbrev pub body_place : ℕ → ℕ
body_place fields_len = fixed_len + fields_len + padding 8 fields_len

-- the bytes of a message's array of fields
abbrev pub header_bytes : Message → List ℕ
header_bytes m = fields_bytes m.order fixed_len m.fields

-- the arguments one after the other
abbrev pub body_bytes : Message → List ℕ
body_bytes m = members_bytes m.order (body_place (length (header_bytes m))) m.types m.arguments

-- the arguments as they lie in the message's bytes
abbrev pub arguments_of : Message → List Argument
arguments_of m = arguments_from m.order (body_place (length (header_bytes m))) m.types m.arguments

-- the order, the kind, the flags, the version of the protocol, the body's length, the serial, the fields
-- with their length, zeros up to a multiple of eight, and the body
abbrev pub message_bytes : Message → List ℕ
message_bytes m =
    (order_byte m.order ∷ kind_byte m.kind ∷ m.flags ∷ 1 ∷ [])
    ++ (word_bytes m.order (length (body_bytes m))
    ++ (word_bytes m.order m.serial
    ++ (word_bytes m.order (length (header_bytes m))
    ++ (header_bytes m
    ++ (zeros (padding 8 (length (header_bytes m)))
    ++ body_bytes m)))))
