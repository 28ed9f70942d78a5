-- Valid messages (D-Bus Specification, "Message Protocol").
use Rattle.std.specs.Prelude.{◌≡◌, ℕ, ◌+◌, ◌^◌, ◌<◌, ◌≤◌, true, false, List, [], ◌∷◌, length, Option, Some, None}
use Rattle.signature.specs.DataType.{basic, SigText}
use Rattle.message_value.specs.declared.order.Order.{Order}
use Rattle.message_value.specs.Value.{Value, number, text}
use Rattle.message_value.specs.Fits.{max_levels, max_array_len, IsOneType, ValueFits, MembersFit}
use Rattle.message_view.specs.declared.field.FieldCode.{FieldCode}
use Rattle.message_view.specs.Header.{kind_byte, kind_of, code_of, type_code, is_named_well, is_reserved, is_number_allowed, has_required}
use Rattle.message_view.specs.Message.{Field, field_with, signature_in, Message}
use Rattle.message_view.specs.Spelling.{fixed_len, field_value_place, field_bytes, header_bytes, body_place, message_bytes}

-- how many levels are left inside the variant of a field
abbrev pub levels_in_field : ℕ
levels_in_field = 63

-- what a known field may hold
abbrev pub HasContent : FieldCode → Value → Type 0
HasContent code (number bits) = is_number_allowed code bits ≡ true
HasContent code (text bytes) = (is_named_well code bytes ≡ true) × (is_reserved code bytes ≡ false)
HasContent code value = ⊥

-- a known field has the type and the content of its row; of others nothing is known
abbrev pub IsAllowed : Option FieldCode → Field → Type 0
IsAllowed (Some code) field = (field.type ≡ basic (type_code code)) × HasContent code field.value
IsAllowed None field = Unit {0}

-- a field at a place
pub record IsField (order : Order) (place : ℕ) (field : Field) : Type 0 where
  pub code_above : 0 < field.code
  pub code_fits : field.code < 256
  pub typed : IsOneType field.type
  pub shaped : ValueFits order levels_in_field (field_value_place place field) field.type field.value
  pub allowed : IsAllowed (code_of field.code) field

-- no known field of the code is among them
abbrev pub IsOnce : Option FieldCode → ℕ → List Field → Type 0
IsOnce (Some known) code fields = field_with code fields ≡ None
IsOnce None code fields = Unit {0}

-- each is a field where it stands, and no known one comes twice
abbrev pub AreFields : Order → ℕ → List Field → Type 0
AreFields order place [] = Unit {0}
AreFields order place (field ∷ fields) =
    IsField order place field
    × IsOnce (code_of field.code) field.code fields
    × AreFields order (place + length (field_bytes order place field)) fields

abbrev pub max_message_len : ℕ
max_message_len = 134217728

-- the bytes spell the message
pub record Valid (bytes : List ℕ) (m : Message) : Type 0 where
  pub kind : kind_of (kind_byte m.kind) ≡ Some m.kind
  pub kind_fits : kind_byte m.kind < 256
  pub flags : m.flags < 256
  pub serial : 0 < m.serial
  pub serial_fits : m.serial < 2 ^ 32
  pub fields : AreFields m.order fixed_len m.fields
  pub required : has_required m.kind m.fields ≡ true
  pub types : SigText m.types (signature_in m.fields)
  pub arguments : MembersFit m.order max_levels (body_place (length (header_bytes m))) m.types m.arguments
  pub fields_fit : length (header_bytes m) ≤ max_array_len
  pub fits : length bytes ≤ max_message_len
  pub spelled : bytes ≡ message_bytes m
