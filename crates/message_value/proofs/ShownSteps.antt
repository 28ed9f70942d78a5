-- An argument as it is read and as it lies in the message.
use Rattle.std.proofs.Common.{◌≡◌, ℕ, ◌≤◌, ◌-◌, ◌%◌, List, length, None, Ok, refl, sym, ap, ◌∙◌, arith}
use Rattle.std.specs.Prelude.{◌==◌, ◌&&◌, nat_lt, slice_index}
use Rattle.signature.specs.BasicType.{basic_alignment}
use Rattle.signature.specs.DataType.{DataType, basic, variant, array, dict, struct, spelling, TypeText}
use Rattle.signature.specs.Alignment.{alignment_of}
use Rattle.message_value.specs.declared.order.Order.{Order}
use Rattle.message_value.specs.declared.error.MsgError.TheVariants as faults
use Rattle.message_value.specs.declared.text.TextType.{TextType}
use Rattle.message_value.specs.declared.text.TextType.TheVariants as texts
use Rattle.message_value.specs.Order.{number_of}
use Rattle.message_value.specs.Value.{Value, number, text}
use Rattle.message_value.specs.Spelling.{align_up, number_len, width_of, bare_bytes, value_bytes}
use Rattle.message_value.specs.Reading.{At, item_at, aligned_at, long_text_at, short_text_at, text_value_at, count_at, number_value_at, value_at}
use Rattle.message_value.specs.Arguments.{Argument, text_start, argument_of}
use Rattle.message_value.specs.Forms.{IsNoText}
use Rattle.message_value.specs.TextTypes.{text_code}
use Rattle.message_value.proofs.OkSteps.{bind_ok, ok_is, not_refused}
use Rattle.message_value.proofs.WordBytes.{IsBytes}
use Rattle.message_value.proofs.ReadItems.{Takes-leaves, aligned_takes, length-padded}
use Rattle.message_value.proofs.ReadValues.{value_takes}
use Rattle.message_value.proofs.ValueSteps.{begun, alignment_some}
use Rattle.message_value.proofs.NumberArrays.{padding_none, aligned_here, aligned_place}
use Rattle.message_value.proofs.SkipTexts.{long_fits, short_fits}
use Rattle.message_value.proofs.SkipValues.{basic_same, basic_text, basic_number}

-- ---- where it begins

pub start_place : (type : DataType) (at start : At) → aligned_at (alignment_of type) at ≡ Ok start → start.place ≡ align_up (alignment_of type) at.place
start_place type at start gone = (aligned_takes (alignment_of type) at start gone).1

pub start_aligned : (type : DataType) (at start : At) → aligned_at (alignment_of type) at ≡ Ok start → start.place % alignment_of type ≡ 0
start_aligned type at start gone = aligned_place (alignment_of type) at start (alignment_some type) gone

-- after its padding a value is the same
pub value_here : (levels : ℕ) (order : Order) (type : DataType) (at start : At) → aligned_at (alignment_of type) at ≡ Ok start → value_at levels order type at ≡ value_at levels order type start
value_here levels order type at start gone =
    begun levels order type at start gone ∙ sym (begun levels order type start start (aligned_here (alignment_of type) start (start_aligned type at start gone)))

pub text_of_value : (levels : ℕ) (order : Order) (type : DataType) (kind : TextType) (at start : At) (found : Value × At) → type ≡ basic (text_code kind) → aligned_at (alignment_of type) at ≡ Ok start
    → value_at levels order type at ≡ Ok found → text_value_at order (text_code kind) start ≡ Ok found
text_of_value levels order type kind at start found is gone e =
    let here : aligned_at (basic_alignment (text_code kind)) at ≡ Ok start = ap (λ (t : DataType). aligned_at (alignment_of t) at) (sym is) ∙ gone in
    basic_text order (text_code kind) kind at start found here refl (sym (basic_same levels order type (text_code kind) at is) ∙ e)

-- the length of a text stands before it
pub start_within : (order : Order) (kind : TextType) (at : At) (found : Value × At) → text_value_at order (text_code kind) at ≡ Ok found → text_start (text_code kind) ≤ length at.rest
unfolding text_value_at
start_within order texts.String at found e = let s = bind_ok (long_text_at order 115 at) (λ read. Ok (text read.0, read.1)) found e in long_fits order 115 at s.0 s.1
start_within order texts.ObjectPath at found e = let s = bind_ok (long_text_at order 111 at) (λ read. Ok (text read.0, read.1)) found e in long_fits order 111 at s.0 s.1
start_within order texts.Signature at found e = let s = bind_ok (short_text_at at) (λ read. Ok (text read.0, read.1)) found e in short_fits at s.0 s.1

-- ---- what is no text

number_found : (order : Order) (code : ℕ) (at : At) (found : Value × At) → number_value_at order code at ≡ Ok found → (bits : ℕ) × (found.0 ≡ number bits)
unfolding number_value_at
number_found order code at found e =
    let s = bind_ok (item_at (number_len code) at) (λ bytes. count_at code (number_of order (width_of code) bytes.0) bytes.1) found e in
    let bits = number_of order (width_of code) s.0.0 in
    let made : Value × At = (number bits, s.0.1) in
    let t = not_refused (code == 98 && nat_lt 1 bits) faults.BadBool (Ok made) found s.2 in
    let same : made ≡ found = ok_is made found t.1 in
    (bits, ap (λ (x : Value × At). x.0) (sym {a = made} same))

-- an argument that isn't a text
abbrev pub plain_argument : Order → ℕ → DataType → Value → Argument
plain_argument order place type value = record { code = slice_index (spelling type) 0; place = place; len = length (bare_bytes order place type value); text = None }

pub no_text_argument : (levels : ℕ) (order : Order) (type : DataType) (at : At) (found : Value × At) → IsNoText type → at.place % alignment_of type ≡ 0 → value_at levels order type at ≡ Ok found
    → argument_of order at.place type found.0 ≡ plain_argument order at.place type found.0
no_text_argument levels order (basic code) at found none here e =
    let n = number_found order code at found (basic_number order code at at found (aligned_here (basic_alignment code) at here) none (sym (basic_same levels order (basic code) code at refl) ∙ e)) in
    rw n.1 refl
no_text_argument levels order variant at found none here e = refl
no_text_argument levels order (array t) at found none here e = refl
no_text_argument levels order (dict k v) at found none here e = refl
no_text_argument levels order (struct t ts) at found none here e = refl

aligned_same : (a p : ℕ) → p % a ≡ 0 → align_up a p ≡ p
aligned_same a p e =
    let none = padding_none a p e in
    omega arith

-- how many bytes it has
pub bare_len : (levels : ℕ) (order : Order) (type : DataType) (at : At) (found : Value × At) → IsBytes at.rest → at.place % alignment_of type ≡ 0 → value_at levels order type at ≡ Ok found
    → length (bare_bytes order at.place type found.0) ≡ length at.rest - length found.1.rest
bare_len levels order type at found bytes here e =
    let taken = (value_takes levels order type at found bytes e).0 in
    let leaves = Takes-leaves at (value_bytes order at.place type found.0) found.1 taken in
    let same = aligned_same (alignment_of type) at.place here in
    let with_padding = length-padded (alignment_of type) at.place (λ start. bare_bytes order start type found.0) in
    let bare : length (bare_bytes order (align_up (alignment_of type) at.place) type found.0) ≡ length (bare_bytes order at.place type found.0) = ap (λ (p : ℕ). length (bare_bytes order p type found.0)) same in
    omega arith

pub spelled_code : (type : DataType) (bytes : List ℕ) → TypeText type bytes → slice_index bytes 0 ≡ slice_index (spelling type) 0
spelled_code type bytes is = ap (λ (x : List ℕ). slice_index x 0) is.spelled

pub shown_is : (order : Order) (type : DataType) (value : Value) (code place len at : ℕ) → place ≡ at → code ≡ slice_index (spelling type) 0 → len ≡ length (bare_bytes order at type value)
    → argument_of order at type value ≡ plain_argument order at type value
    → record { code = code; place = place; len = len; text = None } ≡ argument_of order at type value
shown_is order type value code place len at p c l e = rw (p, c, l) (sym e)
