-- Inner: the forms of the values of basic types.
use Rattle.std.specs.Prelude.{◌≡◌, ℕ, ◌==◌, ◌&&◌, Bool, true, false, List, nat_le, if◌then◌else◌, Option, Some, None, Result}
use Rattle.signature.specs.DataType.{DataType, basic}
use Rattle.signature.specs.BasicType.{basic_alignment}
use Rattle.message_value.specs.declared.order.Order.{Order}
use Rattle.message_value.specs.declared.error.MsgError.{MsgError}
use Rattle.message_value.specs.declared.basic_form.BasicForm.{BasicForm}
use Rattle.message_value.specs.declared.basic_form.BasicForm.TheVariants as forms
use Rattle.message_value.specs.Value.{Value}
use Rattle.message_value.specs.Spelling.{number_len}
use Rattle.message_value.specs.Fits.{is_text_code}
use Rattle.message_value.specs.Reading.{At, ◌>>=◌, aligned_at, text_value_at, number_value_at}
use Rattle.message_value.specs.TextTypes.{text_code}

-- an ASCII character other than zero
abbrev pub is_plain : ℕ → Bool
is_plain byte = nat_le 1 byte && nat_le byte 127

-- what a test of a text's form lends: the text itself
abbrev pub LendsText : Bool → List ℕ → Option (List ℕ) → Type 0
LendsText allowed bytes (Some found) = (allowed ≡ true) × (found ≡ bytes)
LendsText allowed bytes None = allowed ≡ false

-- the form of the values of a basic type
abbrev pub IsFormOf : ℕ → BasicForm → Type 0
IsFormOf code (forms.Text text) = code ≡ text_code text
IsFormOf code forms.Boolean = code ≡ 98
IsFormOf code (forms.Number len) = (is_text_code code ≡ false) × ((code == 98) ≡ false) × (number_len code ≡ len)

-- a value of a basic type, with the zeros before it
unfoldable pub basic_at : Order → ℕ → At → Result (Value × At) MsgError
basic_at order code at =
    aligned_at (basic_alignment code) at >>= λ start. if is_text_code code then text_value_at order code start else number_value_at order code start

-- the values of a type have `len` bytes, any of which are a value
abbrev pub AreNumbers : ℕ → DataType → Type 0
AreNumbers len (basic code) = (is_text_code code ≡ false) × ((code == 98) ≡ false) × (number_len code ≡ len)
AreNumbers len _ = ⊥

-- its values are no texts
abbrev pub IsNoText : DataType → Type 0
IsNoText (basic code) = is_text_code code ≡ false
IsNoText _ = Unit {0}
