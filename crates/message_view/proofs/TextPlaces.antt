-- Where the texts of the known fields lie, one field after the other.
use Rattle.std.proofs.Common.{◌≡◌, ℕ, ◌+◌, ◌-◌, ◌<◌, Bool, true, false, cond, eqb, List, [], ◌∷◌, ◌++◌, length, None, Ok, refl, ap, subst, ◌∙◌, arith}
use Rattle.std.proofs.lemmas.List.{length-append}
use Rattle.signature.specs.DataType.{basic}
use Rattle.signature.specs.Alignment.{alignment_of}
use Rattle.message_value.specs.declared.order.Order.{Order}
use Rattle.message_value.specs.Order.{word_bytes}
use Rattle.message_value.specs.Value.{Value, number, text, elements, entries, members, of_type}
use Rattle.message_value.specs.Spelling.{padding, align_up, zeros, text_bytes, value_bytes, bare_bytes}
use Rattle.message_value.specs.Reading.{At, byte_at, word_at, text_at, short_text_at, long_text_at, text_value_at}
use Rattle.message_value.proofs.OkSteps.{bind_ok, found_none, ok_is}
use Rattle.message_value.proofs.WordBytes.{length-word_bytes}
use Rattle.message_value.proofs.ReadItems.{length-zeros, length-padded}
use Rattle.message_value.proofs.ReadTexts.{text_takes}
use Rattle.message_view.specs.declared.extent.TextField.{TextField}
use Rattle.message_view.specs.declared.extent.TextField.TheVariants as names
use Rattle.message_view.specs.Header.{type_code}
use Rattle.message_view.specs.Message.{Field, field_with}
use Rattle.message_view.specs.Spelling.{field_front, field_value_place, field_bytes, fields_bytes}
use Rattle.message_view.specs.Places.{text_extent, extent_from}
use Rattle.message_view.specs.Slots.{named_code}
use Rattle.message_view.specs.FieldAnswers.{extent_before}
use Rattle.message_view.proofs.ReadFields.{field_of}

-- ---- a text that was read

short_within : (a : At) (found : List ℕ × At) → short_text_at a ≡ Ok found → length found.0 < found.1.place
unfolding short_text_at
short_within a found e =
    let n = bind_ok (byte_at a) (λ len. text_at 103 len.0 len.1) found e in
    let t = text_takes 103 n.0.0 n.0.1 found n.2 in
    omega (arith, t.0.place, length-append found.0 (0 ∷ []))

long_within : (order : Order) (code : ℕ) (a : At) (found : List ℕ × At) → long_text_at order code a ≡ Ok found → length found.0 < found.1.place
unfolding long_text_at
long_within order code a found e =
    let n = bind_ok (word_at order a) (λ len. text_at code len.0 len.1) found e in
    let t = text_takes code n.0.0 n.0.1 found n.2 in
    omega (arith, t.0.place, length-append found.0 (0 ∷ []))

abbrev IsWithin : Value → ℕ → Type 0
IsWithin (text bytes) tail = length bytes < tail
IsWithin _ tail = Unit {0}

-- it lies before the place after it
pub text_within : (order : Order) (code : ℕ) (a : At) (bytes : List ℕ) (tail : At) → text_value_at order code a ≡ Ok (text bytes, tail) → length bytes < tail.place
unfolding text_value_at
text_within order code a bytes tail e =
    let b = bind_ok (cond (eqb code 103) (short_text_at a) (long_text_at order code a)) (λ found. Ok (text found.0, found.1)) (text bytes, tail) e in
    let made : Value × At = (text b.0.0, b.0.1) in
    subst (λ (f : Value × At). IsWithin f.0 f.1.place) {x = made} (ok_is made (text bytes, tail) b.2) (some (eqb code 103) b.0 b.1)
  where
    some : (g : Bool) (found : List ℕ × At) → cond g (short_text_at a) (long_text_at order code a) ≡ Ok found → length found.0 < found.1.place
    some true found e = short_within a found e
    some false found e = long_within order code a found e

-- ---- one more field

pub fields_push : (order : Order) (start : ℕ) (front : List Field) (field : Field) (end : ℕ) → end ≡ start + length (fields_bytes order start front) → start + length (fields_bytes order start (front ++ field ∷ [])) ≡ end + length (field_bytes order end field)
fields_push order start [] field end is =
    let same : end ≡ start = omega arith in
    rw same (omega (arith, length-append (field_bytes order start field) []))
fields_push order start (first ∷ front) field end is =
    let bytes = field_bytes order start first in
    let next = start + length bytes in
    let more = fields_push order next front field end (omega (arith, length-append bytes (fields_bytes order next front))) in
    omega (arith, more, length-append bytes (fields_bytes order next (front ++ field ∷ [])))

pub extent_other : (order : Order) (start code : ℕ) (front : List Field) (field : Field) → eqb field.code code ≡ false → extent_from order start code (front ++ field ∷ []) ≡ extent_from order start code front
extent_other order start code [] field other = rw other refl
extent_other order start code (first ∷ front) field other =
    ap (cond (eqb first.code code) (text_extent start first)) (extent_other order (start + length (field_bytes order start first)) code front field other)

pub extent_new : (order : Order) (start code : ℕ) (front : List Field) (field : Field) (end : ℕ) → field_with code front ≡ None → eqb field.code code ≡ true → end ≡ start + length (fields_bytes order start front)
    → extent_from order start code (front ++ field ∷ []) ≡ text_extent end field
extent_new order start code [] field end none own is =
    let same : end ≡ start = omega arith in
    rw (own, same) refl
extent_new order start code (first ∷ front) field end none own is =
    let n = found_none (eqb first.code code) first.value (field_with code front) none in
    let bytes = field_bytes order start first in
    let next = start + length bytes in
    rw n.0 (extent_new order next code front field end n.1 own (omega (arith, is, length-append bytes (fields_bytes order next front))))

-- ---- a text field that was read

-- how far it reaches
text_reaches : (order : Order) (place code t : ℕ) (bytes : List ℕ) → eqb t 103 ≡ false → alignment_of (basic t) ≡ 4
    → place + length (field_bytes order place (field_of code (basic t) (text bytes))) ≡ align_up 4 (field_value_place place (field_of code (basic t) (text bytes))) + 4 + length bytes + 1
text_reaches order place code t bytes long four =
    let field = field_of code (basic t) (text bytes) in
    let at_value = field_value_place place field in
    let value = value_bytes order at_value (basic t) (text bytes) in
    let own : text_bytes order t bytes ≡ word_bytes order (length bytes) ++ (bytes ++ 0 ∷ []) = rw long refl in
    let len : length (text_bytes order t bytes) ≡ 4 + length bytes + 1 = ap (λ (x : List ℕ). length x) own ∙ omega (arith, length-append (word_bytes order (length bytes)) (bytes ++ 0 ∷ []), length-word_bytes order (length bytes), length-append bytes (0 ∷ [])) in
    let padded : at_value + length value ≡ align_up (alignment_of (basic t)) at_value + length (text_bytes order t bytes) = length-padded (alignment_of (basic t)) at_value (λ start. bare_bytes order start (basic t) (text bytes)) in
    let by_four : align_up (alignment_of (basic t)) at_value ≡ align_up 4 at_value = ap (λ (k : ℕ). align_up k at_value) four in
    let front = field_front field in
    let skipped = zeros (padding 8 place) in
    omega (arith, padded, by_four, len, length-append skipped (front ++ value), length-append front value, length-zeros (padding 8 place))

-- so it lies where it does by the place after it
text_before : (order : Order) (place code t tail : ℕ) (value : Value) → eqb t 103 ≡ false → alignment_of (basic t) ≡ 4 → tail ≡ place + length (field_bytes order place (field_of code (basic t) value))
    → extent_before tail value ≡ text_extent place (field_of code (basic t) value)
text_before order place code t tail (number bits) long four is = refl
text_before order place code t tail (text bytes) long four is =
    let reach = text_reaches order place code t bytes long four in
    let begins : tail - 1 - length bytes ≡ align_up 4 (field_value_place place (field_of code (basic t) (text bytes))) + 4 = omega (arith, reach, is) in
    rw begins refl
text_before order place code t tail (elements vs) long four is = refl
text_before order place code t tail (entries es) long four is = refl
text_before order place code t tail (members vs) long four is = refl
text_before order place code t tail (of_type s v) long four is = refl

pub name_before : (order : Order) (place code tail : ℕ) (name : TextField) (value : Value) → tail ≡ place + length (field_bytes order place (field_of code (basic (type_code (named_code name))) value))
    → extent_before tail value ≡ text_extent place (field_of code (basic (type_code (named_code name))) value)
name_before order place code tail names.Path value is = text_before order place code 111 tail value refl refl is
name_before order place code tail names.Interface value is = text_before order place code 115 tail value refl refl is
name_before order place code tail names.Member value is = text_before order place code 115 tail value refl refl is
name_before order place code tail names.ErrorName value is = text_before order place code 115 tail value refl refl is
name_before order place code tail names.Destination value is = text_before order place code 115 tail value refl refl is
name_before order place code tail names.Sender value is = text_before order place code 115 tail value refl refl is
