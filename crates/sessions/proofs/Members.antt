-- The member of a message is no longer than a name may be.
use Rattle.std.proofs.Common.{◌≡◌, ℕ, ◌+◌, ◌≤◌, ◌&&◌, Bool, true, false, cond, eqb, List, [], ◌∷◌, length, Option, Some, refl, subst}
use Rattle.std.proofs.lemmas.Bool.{eqb-true, leb-true}
use Rattle.message_value.specs.declared.order.Order.{Order}
use Rattle.message_value.specs.Value.{Value, text}
use Rattle.message_view.specs.Header.{code_of}
use Rattle.message_view.specs.Message.{Field, Message, field_with, text_in, member_of}
use Rattle.message_view.specs.Spelling.{fixed_len, field_bytes}
use Rattle.message_view.specs.Valid.{Valid, IsAllowed, AreFields}

-- no text of more bytes than a name may have
abbrev IsShort : Option Value → Type 0
IsShort (Some (text bytes)) = length bytes ≤ 255
IsShort _ = Unit {0}

first_holds : (a b : Bool) → (a && b) ≡ true → a ≡ true
first_holds true b e = refl
first_holds false b e = e

short_value : (code : ℕ) (type : _) (value : Value) → IsAllowed (code_of 3) (record { code = code; type = type; value = value }) → IsShort (Some value)
short_value code type (text bytes) allowed = leb-true (length bytes) 255 (first_holds _ _ allowed.1.0)
short_value code type _ allowed = tt

short_field : (field : Field) → field.code ≡ 3 → IsAllowed (code_of field.code) field → IsShort (Some field.value)
short_field field same allowed = short_value field.code field.type field.value (subst (λ (k : ℕ). IsAllowed (code_of k) field) same allowed)

short_among : (order : Order) (place : ℕ) (fields : List Field) → AreFields order place fields → IsShort (field_with 3 fields)
short_among order place [] are = tt
short_among order place (field ∷ fields) are = go (eqb field.code 3) refl (short_among order (place + length (field_bytes order place field)) fields are.2)
  where
    go : (b : Bool) → eqb field.code 3 ≡ b → IsShort (field_with 3 fields) → IsShort (cond b (Some field.value) (field_with 3 fields))
    go true e held = short_field field (eqb-true field.code 3 e) are.0.allowed
    go false e held = held

short_text : (value : Option Value) (name : List ℕ) → IsShort value → text_in value ≡ Some name → length name ≤ 255
short_text (Some (text bytes)) name short is = let same : bytes ≡ name = cc in subst (λ (x : List ℕ). length x ≤ 255) same short
short_text _ name short is = absurd cc

pub member_is_short : (bytes : List ℕ) (m : Message) (name : List ℕ) → Valid bytes m → member_of m ≡ Some name → length name ≤ 255
member_is_short bytes m name valid is = short_text (field_with 3 m.fields) name (short_among m.order fixed_len m.fields valid.fields) is
