-- Where the texts of the known fields lie in a message's bytes.
use Rattle.std.proofs.Common.{◌≡◌, ℕ, ◌+◌, ◌≤◌, Bool, true, false, cond, eqb, List, [], ◌∷◌, ◌++◌, length, Option, Some, None, refl, sym, ap, subst, arith}
use Rattle.std.proofs.lemmas.Bool.{eqb-true}
use Rattle.signature.specs.DataType.{DataType, basic}
use Rattle.signature.specs.Alignment.{alignment_of}
use Rattle.message_value.specs.declared.order.Order.{Order}
use Rattle.message_value.specs.Order.{word_bytes, order_byte}
use Rattle.message_value.specs.Value.{Value}
use Rattle.message_value.specs.Value.{text as text_value}
use Rattle.message_value.specs.Spelling.{padding, align_up, zeros, signature_bytes, value_bytes}
use Rattle.message_value.specs.Fits.{BareFits}
use Rattle.message_value.proofs.WordBytes.{length-word_bytes}
use Rattle.message_value.proofs.ReadItems.{length-zeros}
use Rattle.message_view.specs.declared.extent.Extent.{Extent}
use Rattle.message_view.specs.declared.extent.TextField.{TextField}
use Rattle.message_view.specs.declared.extent.TextField.TheVariants.{Path, Interface, Member, ErrorName, Destination, Sender}
use Rattle.message_view.specs.Header.{kind_byte, code_of}
use Rattle.message_view.specs.Message.{Field, Message, field_with, text_in}
use Rattle.message_view.specs.Spelling.{fixed_len, field_value_place, field_bytes, fields_bytes, header_bytes, body_bytes, message_bytes}
use Rattle.message_view.specs.Places.{text_field_code, text_extent, extent_from, extent_of, text_of, IsSlice}
use Rattle.message_view.specs.Valid.{Valid, IsAllowed, AreFields, levels_in_field}
use Rattle.message_value.specs.Bytes.{AreBytes}
use Rattle.message_view.proofs.TextBytes.{text_bytes}
use Rattle.message_view.proofs.TextStands.{Stands, stands_here, stands_before, stands_after, stands_within, stands_slice}

-- ---- a text among bytes

-- the code of the type of a field that is a text: `o` or `s`
abbrev text_type : TextField → ℕ
text_type Path = 111
text_type Interface = 115
text_type Member = 115
text_type ErrorName = 115
text_type Destination = 115
text_type Sender = 115

is_typed : (known : TextField) (field : Field) → IsAllowed (code_of (text_field_code known)) field → field.type ≡ basic (text_type known)
is_typed Path field allowed = allowed.0
is_typed Interface field allowed = allowed.0
is_typed Member field allowed = allowed.0
is_typed ErrorName field allowed = allowed.0
is_typed Destination field allowed = allowed.0
is_typed Sender field allowed = allowed.0

-- a text stands after its padding and its length
long_text_stands : (order : Order) (place : ℕ) (text : List ℕ) → AreBytes text → Stands (zeros (padding 4 place) ++ (word_bytes order (length text) ++ (text ++ 0 ∷ []))) place (align_up 4 place + 4) text
long_text_stands order place text are =
    stands_after (zeros (padding 4 place)) (word_bytes order (length text) ++ (text ++ 0 ∷ [])) text (padding 4 place) place (align_up 4 place + 4) (length-zeros (padding 4 place))
    (stands_here (word_bytes order (length text)) text (0 ∷ []) (align_up 4 place) (align_up 4 place + 4) are (ap (λ (n : ℕ). align_up 4 place + n) (length-word_bytes order (length text))))

value_stands : (known : TextField) (order : Order) (place : ℕ) (text : List ℕ) → AreBytes text → Stands (value_bytes order place (basic (text_type known)) (text_value text)) place (align_up 4 place + 4) text
value_stands Path order place text are = long_text_stands order place text are
value_stands Interface order place text are = long_text_stands order place text are
value_stands Member order place text are = long_text_stands order place text are
value_stands ErrorName order place text are = long_text_stands order place text are
value_stands Destination order place text are = long_text_stands order place text are
value_stands Sender order place text are = long_text_stands order place text are

-- What is told of the text of a field among bytes that begin at a place: where it stands, and its length.
abbrev pub Said : List ℕ → ℕ → Option Extent → Option (List ℕ) → Type 0
Said bytes start None None = Unit {0}
Said bytes start None (Some text) = ⊥
Said bytes start (Some extent) None = ⊥
Said bytes start (Some extent) (Some text) = (extent.len ≡ length text) × Stands bytes start extent.place text

said_before : (bytes more : List ℕ) (start : ℕ) (extent : Option Extent) (text : Option (List ℕ)) → Said bytes start extent text → Said (bytes ++ more) start extent text
said_before bytes more start None None said = tt
said_before bytes more start None (Some text) said = absurd said
said_before bytes more start (Some extent) None said = absurd said
said_before bytes more start (Some extent) (Some text) said = (said.0, stands_before bytes text more start extent.place said.1)

said_after : (first bytes : List ℕ) (n start : ℕ) (extent : Option Extent) (text : Option (List ℕ)) → length first ≡ n → Said bytes (start + n) extent text → Said (first ++ bytes) start extent text
said_after first bytes n start None None is said = tt
said_after first bytes n start None (Some text) is said = absurd said
said_after first bytes n start (Some extent) None is said = absurd said
said_after first bytes n start (Some extent) (Some text) is said = (said.0, stands_after first bytes text n start extent.place is said.1)

-- ---- the fields

field_stands : (known : TextField) (order : Order) (place code : ℕ) (type : DataType) (text : List ℕ) → AreBytes text → type ≡ basic (text_type known)
    → Stands (field_bytes order place (record { code = code; type = type; value = text_value text })) place (align_up 4 (field_value_place place (record { code = code; type = type; value = text_value text })) + 4) text
field_stands known order place code type text are is =
    let front : List ℕ = code ∷ signature_bytes type in
    let at : ℕ = align_up 8 place + length front in
    let value : Stands (value_bytes order at type (text_value text)) at (align_up 4 at + 4) text = subst (λ (t : DataType). Stands (value_bytes order at t (text_value text)) at (align_up 4 at + 4) text) (sym is) (value_stands known order at text are) in
    stands_after (zeros (padding 8 place)) (front ++ value_bytes order at type (text_value text)) text (padding 8 place) place (align_up 4 at + 4) (length-zeros (padding 8 place))
    (stands_after front (value_bytes order at type (text_value text)) text (length front) (align_up 8 place) (align_up 4 at + 4) refl value)

-- a text that fits its type
fitting_bytes : (order : Order) (place code : ℕ) (type : DataType) (text : List ℕ) → type ≡ basic code → BareFits order levels_in_field place type (text_value text) → AreBytes text
fitting_bytes order place code type text is fits =
    let has : BareFits order levels_in_field place (basic code) (text_value text) = subst (λ (t : DataType). BareFits order levels_in_field place t (text_value text)) is fits in
    text_bytes code text has.0

field_said : (known : TextField) (order : Order) (place at code : ℕ) (type : DataType) (value : Value) → type ≡ basic (text_type known) → BareFits order levels_in_field at type value
    → Said (field_bytes order place (record { code = code; type = type; value = value })) place (text_extent place (record { code = code; type = type; value = value })) (text_in (Some value))
field_said known order place at code type (text_value text) is fits = (refl, field_stands known order place code type text (fitting_bytes order at (text_type known) type text is fits) is)
field_said known order place at code type _ is fits = tt

either_said : (b : Bool) (bytes : List ℕ) (start : ℕ) (x y : Option Extent) (v : Value) (w : Option Value) → (b ≡ true → Said bytes start x (text_in (Some v))) → (b ≡ false → Said bytes start y (text_in w)) → Said bytes start (cond b x y) (text_in (cond b (Some v) w))
either_said true bytes start x y v w first other = first refl
either_said false bytes start x y v w first other = other refl

-- the text of the first field of a code, where it stands
fields_said : (known : TextField) (order : Order) (place : ℕ) (fields : List Field) → AreFields order place fields
    → Said (fields_bytes order place fields) place (extent_from order place (text_field_code known) fields) (text_in (field_with (text_field_code known) fields))
fields_said known order place [] are = tt
fields_said known order place (field ∷ fields) are =
    let code : ℕ = text_field_code known in
    let first : List ℕ = field_bytes order place field in
    let more : List ℕ = fields_bytes order (place + length first) fields in
    either_said (eqb field.code code) (first ++ more) place (text_extent place field) (extent_from order (place + length first) code fields) field.value (field_with code fields)
    (λ e.
    let allowed : IsAllowed (code_of code) field = subst (λ (c : ℕ). IsAllowed (code_of c) field) (eqb-true field.code code e) are.0.allowed in
    said_before first more place (text_extent place field) (text_in (Some field.value)) (field_said known order place (align_up (alignment_of field.type) (field_value_place place field)) field.code field.type field.value (is_typed known field allowed) are.0.shaped))
    (λ e. said_after first more (length first) place (extent_from order (place + length first) code fields) (text_in (field_with code fields)) refl (fields_said known order (place + length first) fields are.2))

-- ---- the message

pub texts_said : (known : TextField) (bytes : List ℕ) (m : Message) → Valid bytes m → Said (message_bytes m) 0 (extent_of known m) (text_of known m)
texts_said known bytes m valid =
    let w0 : List ℕ = word_bytes m.order (length (body_bytes m)) in
    let w1 : List ℕ = word_bytes m.order m.serial in
    let w2 : List ℕ = word_bytes m.order (length (header_bytes m)) in
    let last : List ℕ = zeros (padding 8 (length (header_bytes m))) ++ body_bytes m in
    let r2 : List ℕ = header_bytes m ++ last in
    let extent : Option Extent = extent_of known m in
    let text : Option (List ℕ) = text_of known m in
    said_after (order_byte m.order ∷ kind_byte m.kind ∷ m.flags ∷ 1 ∷ []) (w0 ++ (w1 ++ (w2 ++ r2))) 4 0 extent text refl
    (said_after w0 (w1 ++ (w2 ++ r2)) 4 4 extent text (length-word_bytes m.order (length (body_bytes m)))
    (said_after w1 (w2 ++ r2) 4 8 extent text (length-word_bytes m.order m.serial)
    (said_after w2 r2 4 12 extent text (length-word_bytes m.order (length (header_bytes m)))
    (said_before (header_bytes m) last 16 extent text (fields_said known m.order fixed_len m.fields valid.fields)))))

-- ---- slices

said_slice : (bytes : List ℕ) (extent : Option Extent) (text : Option (List ℕ)) → Said bytes 0 extent text → IsSlice bytes extent text
said_slice bytes None None said = tt
said_slice bytes None (Some text) said = absurd said
said_slice bytes (Some extent) None said = absurd said
said_slice bytes (Some extent) (Some text) said =
    let within : extent.place + length text ≤ 0 + length bytes = stands_within bytes text 0 extent.place said.1 in
    (omega (arith, within, said.0), stands_slice bytes text extent.place extent.len said.1 said.0)

pub fields_sliced : (known : TextField) (bytes : List ℕ) (m : Message) → Valid bytes m → IsSlice bytes (extent_of known m) (text_of known m)
fields_sliced known bytes m valid =
    subst (λ (b : List ℕ). IsSlice b (extent_of known m) (text_of known m)) (sym valid.spelled) (said_slice (message_bytes m) (extent_of known m) (text_of known m) (texts_said known bytes m valid))
