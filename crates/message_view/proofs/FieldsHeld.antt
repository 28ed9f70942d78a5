-- What holds of each value of a known field's type holds of the value that a message has in that field.
use Rattle.std.proofs.Common.{◌≡◌, ℕ, ◌+◌, ◌^◌, ◌<◌, Bool, true, false, cond, eqb, List, [], ◌∷◌, length, Option, Some, None, unwrap_or, refl, ap, subst, ◌∙◌, arith}
use Rattle.std.proofs.lemmas.Bool.{eqb-true}
use Rattle.signature.specs.DataType.{DataType, basic}
use Rattle.message_value.specs.declared.order.Order.{Order}
use Rattle.message_value.specs.Value.{Value, number}
use Rattle.message_value.specs.Fits.{ValueFits}
use Rattle.message_view.specs.declared.field.FieldCode.{FieldCode}
use Rattle.message_view.specs.declared.field.FieldCode.TheVariants.{ReplySerial}
use Rattle.message_view.specs.Header.{code_of, type_code}
use Rattle.message_view.specs.Message.{Field, Message, field_with, number_in, reply_serial_of}
use Rattle.message_view.specs.Spelling.{fixed_len, field_value_place, field_bytes}
use Rattle.message_view.specs.Valid.{Valid, IsAllowed, AreFields, levels_in_field}

pub fields_held : (P : Option Value → Type 0) (known : FieldCode) (code : ℕ) (order : Order) → code_of code ≡ Some known → P None
    → ((place : ℕ) (value : Value) → ValueFits order levels_in_field place (basic (type_code known)) value → P (Some value))
    → (place : ℕ) (fields : List Field) → AreFields order place fields → P (field_with code fields)
fields_held P known code order named none each place [] are = none
fields_held P known code order named none each place (field ∷ fields) are = go (eqb field.code code) refl (fields_held P known code order named none each (place + length (field_bytes order place field)) fields are.2)
  where
    here : field.code ≡ code → P (Some field.value)
    here same =
        let at : ℕ = field_value_place place field in
        let allowed : IsAllowed (Some known) field = subst (λ (o : Option FieldCode). IsAllowed o field) (ap code_of same ∙ named) are.0.allowed in
        each at field.value (subst (λ (t : DataType). ValueFits order levels_in_field at t field.value) allowed.0 are.0.shaped)

    go : (b : Bool) → eqb field.code code ≡ b → P (field_with code fields) → P (cond b (Some field.value) (field_with code fields))
    go true e held = here (eqb-true field.code code e)
    go false e held = held

-- ---- the serial that is answered

-- a number of type `u`
abbrev IsWord : Option Value → Type 0
IsWord (Some (number bits)) = bits < 2 ^ 32
IsWord _ = Unit {0}

word_value : (order : Order) (place : ℕ) (value : Value) → ValueFits order levels_in_field place (basic 117) value → IsWord (Some value)
word_value order place (number bits) fits = fits.1
word_value order place _ fits = tt

word_below : (o : Option Value) → IsWord o → unwrap_or (number_in o) 0 < 2 ^ 32
word_below (Some (number bits)) is = is
word_below _ is = omega arith

pub reply_serial_below : (bytes : List ℕ) (m : Message) → Valid bytes m → unwrap_or (reply_serial_of m) 0 < 2 ^ 32
reply_serial_below bytes m valid = word_below (field_with 5 m.fields) (fields_held IsWord ReplySerial 5 m.order refl tt (word_value m.order) fixed_len m.fields valid.fields)
