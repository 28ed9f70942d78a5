-- The types of a body: the field SIGNATURE spells them, and none where it is absent.
use Rattle.std.proofs.Common.{◌≡◌, ℕ, true, List, [], is_some, Option, Some, None, refl}
use Rattle.signature.specs.DataType.{DataTypes, basic, SigText}
use Rattle.signature.specs.Trees.{types_of}
use Rattle.signature.proofs.TreesOfTexts.{types_of-SigText, trees_spelled}
use Rattle.message_value.specs.declared.order.Order.{Order}
use Rattle.message_value.specs.Value.{Value, text}
use Rattle.message_value.specs.Fits.{ValueFits}
use Rattle.message_view.specs.declared.field.FieldCode.TheVariants.{Signature}
use Rattle.message_view.specs.Message.{Field, field_with, text_in, or_empty, signature_in}
use Rattle.message_view.specs.Valid.{AreFields, levels_in_field}
use Rattle.message_view.specs.Reading.{or_no_types, types_in}
use Rattle.message_view.proofs.FieldsHeld.{fields_held}

-- a value of type `g` is a signature
abbrev IsSignature : Option Value → Type 0
IsSignature (Some (text bytes)) = is_some (types_of bytes) ≡ true
IsSignature _ = Unit {0}

signature_value : (order : Order) (place : ℕ) (value : Value) → ValueFits order levels_in_field place (basic 103) value → IsSignature (Some value)
signature_value order place (text bytes) fits = fits.0
signature_value order place _ fits = tt

some_types : (bytes : List ℕ) (o : Option DataTypes) → types_of bytes ≡ o → is_some o ≡ true → SigText (or_no_types o) bytes
some_types bytes (Some types) is e = trees_spelled types bytes is
some_types bytes None is e = absurd cc

held_types : (o : Option Value) → IsSignature o → SigText (or_no_types (types_of (or_empty (text_in o)))) (or_empty (text_in o))
held_types (Some (text bytes)) held = some_types bytes (types_of bytes) refl held
held_types _ held = some_types [] (types_of []) refl refl

-- what the fields of a message say of the types of its body
pub types_spelled : (order : Order) (place : ℕ) (fields : List Field) → AreFields order place fields → SigText (types_in fields) (signature_in fields)
types_spelled order place fields are = held_types (field_with 8 fields) (fields_held IsSignature Signature 8 order refl tt (signature_value order) place fields are)

-- ---- as the code reads them

pub types_found : (fields : List Field) (bytes signature : List ℕ) → bytes ≡ signature_in fields → (signature ≡ bytes) × ((types : DataTypes) × SigText types bytes) → SigText (types_in fields) signature
types_found fields bytes signature is found =
    let trees : types_of bytes ≡ Some found.1.0 = types_of-SigText found.1.0 bytes found.1.1 in
    rw (← is, trees, found.0) found.1.1
