-- What a known field holds, as the code reads it.
use Rattle.std.proofs.Common.{◌≡◌, ℕ, true, Option, Some, Result, Ok, refl, sym, ap, ◌∙◌}
use Rattle.signature.specs.DataType.{DataType, basic}
use Rattle.message_value.specs.declared.order.Order.{Order}
use Rattle.message_value.specs.declared.error.MsgError.{MsgError}
use Rattle.message_value.specs.Value.{Value}
use Rattle.message_value.specs.Reading.{◌>>=◌, At, signature_at, value_at}
use Rattle.message_view.specs.declared.field.FieldCode.{FieldCode}
use Rattle.message_view.specs.declared.field.FieldCode.TheVariants.{Path, Interface, Member, ErrorName, ReplySerial, Destination, Sender, Signature, UnixFds}
use Rattle.message_view.specs.declared.field.FieldType.{FieldType}
use Rattle.message_view.specs.Header.{type_code}
use Rattle.message_view.specs.Reading.{content_fault, or_fault, is_basic_of, content_at}
use Rattle.message_view.specs.FieldAnswers.{type_of, type_code_of}
use Rattle.message_view.proofs.ReadFields.{basic_is, basic_again}

pub type_code-type_of : (code : FieldCode) → type_code_of (type_of code) ≡ type_code code
type_code-type_of Path = refl
type_code-type_of Interface = refl
type_code-type_of Member = refl
type_code-type_of ErrorName = refl
type_code-type_of ReplySerial = refl
type_code-type_of Destination = refl
type_code-type_of Sender = refl
type_code-type_of Signature = refl
type_code-type_of UnixFds = refl

-- what is read of a field
abbrev field_content : FieldCode → Value → At → (DataType × Value) × At
field_content code value tail = ((basic (type_code code), value), tail)

-- a variant of the field's type, and what is read of its value
pub content_is : (order : Order) (code : FieldCode) (field_type : FieldType) (a start : At) (type : DataType) (read : Result (Value × At) MsgError) → field_type ≡ type_of code → signature_at a ≡ Ok (type, start) → is_basic_of (type_code_of field_type) type ≡ true
    → value_at 63 order (basic (type_code_of field_type)) start ≡ read → content_at order (Some code) a ≡ (read >>= λ value. or_fault (content_fault code value.0) ((basic (type_code code), value.0), value.1))
unfolding content_at
content_is order code field_type a start type read row signed typed valued =
    let is : type_code_of field_type ≡ type_code code = ap type_code_of row ∙ type_code-type_of code in
    let same : type ≡ basic (type_code code) = basic_is (type_code code) type (ap (λ (k : ℕ). is_basic_of k type) (sym is) ∙ typed) in
    let value : value_at 63 order (basic (type_code code)) start ≡ read = ap (λ (k : ℕ). value_at 63 order (basic k) start) (sym is) ∙ valued in
    rw (signed, same, basic_again (type_code code), value) refl

-- a content with a fault, and one without
pub content_ends : (code : FieldCode) (value : Value) (tail : At) (found : Option MsgError) → found ≡ content_fault code value → or_fault (content_fault code value) (field_content code value tail) ≡ or_fault found (field_content code value tail)
content_ends code value tail found is = ap (λ (o : Option MsgError). or_fault o (field_content code value tail)) (sym is)
