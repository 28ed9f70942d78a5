-- What the reading of a field says of each of its steps, where it gives a field.
use Rattle.std.proofs.Common.{◌≡◌, ℕ, ◌+◌, Bool, true, false, cond, List, [], ◌∷◌, ◌++◌, Option, Some, None, Result, Ok, Err, refl, sym, ap, ◌∙◌}
use Rattle.std.specs.Prelude.{◌==◌}
use Rattle.std.specs.List.{list_all}
use Rattle.signature.specs.BasicType.{basic_alignment}
use Rattle.signature.specs.DataType.{DataType, basic}
use Rattle.message_value.specs.declared.order.Order.{Order}
use Rattle.message_value.specs.declared.error.MsgError.{MsgError}
use Rattle.message_value.specs.declared.error.MsgError.TheVariants as faults
use Rattle.message_value.specs.declared.text.TextType.{TextType}
use Rattle.message_value.specs.Order.{number_of, word_of}
use Rattle.message_value.specs.Value.{Value, number}
use Rattle.message_value.specs.Spelling.{padding, width_of}
use Rattle.message_value.specs.Fits.{is_text_code}
use Rattle.message_value.specs.Reading.{◌>>=◌, At, item_at, aligned_at, byte_at, word_at, signature_at, text_value_at, count_at, number_value_at, value_at, IsRead}
use Rattle.message_value.specs.Steps.{IsGone, Reaches}
use Rattle.message_value.specs.TextTypes.{text_code}
use Rattle.message_value.proofs.OkSteps.{bind_ok, ok_is}
use Rattle.message_value.proofs.ReadItems.{at, Takes, item_again}
use Rattle.message_value.proofs.ReadTexts.{signature_takes}
use Rattle.message_value.proofs.SkipTexts.{after, padding_gone}
use Rattle.message_value.proofs.SkipValues.{basic_gone, basic_text, basic_number, basic_same}
use Rattle.message_view.specs.declared.field.FieldCode.{FieldCode}
use Rattle.message_view.specs.declared.field.FieldType.{FieldType}
use Rattle.message_view.specs.Header.{code_of, type_code}
use Rattle.message_view.specs.Message.{Field}
use Rattle.message_view.specs.Reading.{content_fault, or_fault, is_basic_of, type_fault, known_fault, content_at, code_fault, code_at, field_at}
use Rattle.message_view.specs.FieldAnswers.{type_of, type_code_of}
use Rattle.message_view.proofs.ReadFields.{or_fault_ok, basic_is, basic_again, field_of}
use Rattle.message_view.proofs.FieldContents.{type_code-type_of, content_is}

-- what is read has no fault
pub never : {A : Type 0} (read : Result A MsgError) (found : A) (fault : MsgError) → read ≡ Ok found → read ≡ Err fault → ⊥
never read found fault is failed = cc

-- ---- padding

pub padding_item : (alignment len : ℕ) (a : At) → len ≡ padding alignment a.place → IsGone (aligned_at alignment a) → IsRead (item_at len a)
unfolding aligned_at
padding_item alignment len a is h =
    let s = bind_ok (item_at (padding alignment a.place) a) (λ skipped. cond (list_all (λ byte. byte == 0) skipped.0) (Ok skipped.1) (Err faults.Padding)) h.0 h.1 in
    (s.0, ap (λ (k : ℕ). item_at k a) is ∙ s.1)

pub padding_is : (alignment len : ℕ) (a tail : At) (item : List ℕ) → len ≡ padding alignment a.place → IsGone (aligned_at alignment a) → item_at len a ≡ Ok (item, tail) → aligned_at alignment a ≡ Ok tail
padding_is alignment len a tail item is h e = padding_gone alignment a h.0 (item, tail) h.1 (ap (λ (k : ℕ). item_at k a) (sym is) ∙ e)

-- ---- its code

pub code_gone : (front : List Field) (a : At) → IsRead (code_at front a) → IsGone (aligned_at 8 a)
unfolding code_at
code_gone front a h =
    let s = bind_ok (aligned_at 8 a) (λ start. byte_at start >>= λ code. or_fault (code_fault front code.0) code) h.0 h.1 in
    (s.0, s.1)

pub code_byte_read : (front : List Field) (a start : At) → aligned_at 8 a ≡ Ok start → IsRead (code_at front a) → IsRead (byte_at start)
unfolding code_at
code_byte_read front a start is h =
    let e = after (aligned_at 8 a) (λ start. byte_at start >>= λ code. or_fault (code_fault front code.0) code) start h.0 h.1 is in
    let b = bind_ok (byte_at start) (λ code. or_fault (code_fault front code.0) code) h.0 e in
    (b.0, b.1)

pub code_is : (front : List Field) (a start middle : At) (byte : ℕ) → aligned_at 8 a ≡ Ok start → byte_at start ≡ Ok (byte, middle) → IsRead (code_at front a) → code_at front a ≡ Ok (byte, middle)
unfolding code_at
code_is front a start middle byte is got h =
    let e = after (aligned_at 8 a) (λ start. byte_at start >>= λ code. or_fault (code_fault front code.0) code) start h.0 h.1 is in
    let f = after (byte_at start) (λ code. or_fault (code_fault front code.0) code) (byte, middle) h.0 e got in
    let g = or_fault_ok (code_fault front byte) (byte, middle) h.0 f in
    h.1 ∙ ap (λ (x : ℕ × At). Ok x) (sym g.1)

pub field_coded : (order : Order) (front : List Field) (a : At) → IsRead (field_at order front a) → IsRead (code_at front a)
unfolding field_at
field_coded order front a h =
    let c = bind_ok (code_at front a) (λ code. content_at order (code_of code.0) code.1 >>= λ content. Ok (field_of code.0 content.0.0 content.0.1, content.1)) h.0 h.1 in
    (c.0, c.1)

pub field_held : (order : Order) (front : List Field) (a middle : At) (byte : ℕ) (known : Option FieldCode) → known ≡ code_of byte → code_at front a ≡ Ok (byte, middle) → IsRead (field_at order front a) → IsRead (content_at order known middle)
unfolding field_at
field_held order front a middle byte known named is h =
    let e = after (code_at front a) (λ code. content_at order (code_of code.0) code.1 >>= λ content. Ok (field_of code.0 content.0.0 content.0.1, content.1)) (byte, middle) h.0 h.1 is in
    let v = bind_ok (content_at order (code_of byte) middle) (λ content. Ok (field_of byte content.0.0 content.0.1, content.1)) h.0 e in
    (v.0, ap (λ (o : Option FieldCode). content_at order o middle) named ∙ v.1)

-- ---- its variant

-- a variant of a field that is known has the field's type
pub record HoldsType (order : Order) (code : FieldCode) (a : At) : Type 0 where
  pub start : At
  pub typed : signature_at a ≡ Ok (basic (type_code code), start)
  pub valued : IsRead (value_at 63 order (basic (type_code code)) start)

pub content_typed : (order : Order) (code : FieldCode) (a : At) → IsRead (content_at order (Some code) a) → HoldsType order code a
unfolding content_at
content_typed order code a h =
    let s = bind_ok (signature_at a) (λ type. or_fault (type_fault (Some code) type.0) type.1 >>= λ start. value_at 63 order type.0 start >>= λ value. or_fault (known_fault (Some code) value.0) ((type.0, value.0), value.1)) h.0 h.1 in
    let type = s.0.0 in
    let t = bind_ok (or_fault (type_fault (Some code) type) s.0.1) (λ start. value_at 63 order type start >>= λ value. or_fault (known_fault (Some code) value.0) ((type, value.0), value.1)) h.0 s.2 in
    let g = or_fault_ok (type_fault (Some code) type) s.0.1 t.0 t.1 in
    let v = bind_ok (value_at 63 order type t.0) (λ value. or_fault (known_fault (Some code) value.0) ((type, value.0), value.1)) h.0 t.2 in
    let same : type ≡ basic (type_code code) = basic_is (type_code code) type (passed (is_basic_of (type_code code) type) g.0) in
    record {
      start = s.0.1;
      typed = s.1 ∙ ap (λ (x : DataType). Ok (x, s.0.1)) same;
      valued = (v.0, ap (λ (x : DataType). value_at 63 order x s.0.1) (sym same) ∙ ap (value_at 63 order type) g.1 ∙ v.1);
    }
  where
    passed : (b : Bool) → cond b None (Some faults.FieldType) ≡ None → b ≡ true
    passed true e = refl
    passed false e = absurd cc

-- the signature of a basic type has three bytes
pub basic_item : (code : ℕ) (a start : At) → signature_at a ≡ Ok (basic code, start) → item_at 3 a ≡ Ok (1 ∷ code ∷ 0 ∷ [], start)
basic_item code a start e =
    let word : List ℕ = 1 ∷ code ∷ 0 ∷ [] in
    let t : Takes a word start = (signature_takes a (basic code, start) e).0 in
    let begins : a ≡ at a.place (word ++ start.rest) a.outside = ap (λ (x : List ℕ). at a.place x a.outside) t.parts in
    let ends : at (a.place + 3) start.rest a.outside ≡ start = ap (λ (k : ℕ). at k start.rest a.outside) (sym t.place) ∙ ap (λ (o : MsgError). at start.place start.rest o) (sym t.outside) in
    ap (item_at 3) begins ∙ item_again 3 a.place a.outside word start.rest refl ∙ ap (λ (x : At). Ok (word, x)) ends

pub item_reaches : (code : ℕ) (a start tail : At) (item : List ℕ) → signature_at a ≡ Ok (basic code, start) → item_at 3 a ≡ Ok (item, tail) → Reaches tail (signature_at a)
item_reaches code a start tail item e is = λ found typed.
    let same : (basic code, start) ≡ found = ok_is (basic code, start) found (sym e ∙ typed) in
    let items : (item, tail) ≡ (1 ∷ code ∷ 0 ∷ [], start) = ok_is (item, tail) (1 ∷ code ∷ 0 ∷ [], start) (sym is ∙ basic_item code a start e) in
    ap (λ (x : List ℕ × At). x.1) items ∙ ap (λ (x : DataType × At). x.1) same

pub content_valid : (order : Order) (code : FieldCode) (field_type : FieldType) (a start tail : At) (value : Value) → field_type ≡ type_of code → signature_at a ≡ Ok (basic (type_code code), start)
    → value_at 63 order (basic (type_code_of field_type)) start ≡ Ok (value, tail) → IsRead (content_at order (Some code) a) → content_at order (Some code) a ≡ Ok ((basic (type_code code), value), tail)
content_valid order code field_type a start tail value row typed valued h =
    let is : type_code_of field_type ≡ type_code code = ap type_code_of row ∙ type_code-type_of code in
    let own : is_basic_of (type_code_of field_type) (basic (type_code code)) ≡ true = ap (λ (k : ℕ). is_basic_of k (basic (type_code code))) is ∙ basic_again (type_code code) in
    let read = content_is order code field_type a start (basic (type_code code)) (Ok (value, tail)) row typed own valued in
    let made : (DataType × Value) × At = ((basic (type_code code), value), tail) in
    let g = or_fault_ok (content_fault code value) made h.0 (sym read ∙ h.1) in
    h.1 ∙ ap (λ (x : (DataType × Value) × At). Ok x) (sym g.1)

-- its value, by the type of its row
pub row_read : (order : Order) (code : FieldCode) (field_type : FieldType) (start : At) → field_type ≡ type_of code → IsRead (value_at 63 order (basic (type_code code)) start) → IsRead (value_at 63 order (basic (type_code_of field_type)) start)
row_read order code field_type start row h =
    (h.0, ap (λ (k : ℕ). value_at 63 order (basic k) start) (ap type_code_of row ∙ type_code-type_of code) ∙ h.1)

-- ---- its value

pub value_gone : (order : Order) (code : ℕ) (a : At) → IsRead (value_at 63 order (basic code) a) → IsGone (aligned_at (basic_alignment code) a)
value_gone order code a h = basic_gone order code a (h.0, sym (basic_same 63 order (basic code) code a refl) ∙ h.1)

pub value_text : (order : Order) (code : ℕ) (type : TextType) (a start : At) (h : IsRead (value_at 63 order (basic code) a)) → code ≡ text_code type → aligned_at (basic_alignment code) a ≡ Ok start → text_value_at order (text_code type) start ≡ Ok h.0
value_text order code type a start h same gone = basic_text order code type a start h.0 gone same (sym (basic_same 63 order (basic code) code a refl) ∙ h.1)

pub value_number : (order : Order) (code : ℕ) (a start : At) (h : IsRead (value_at 63 order (basic code) a)) → code ≡ 117 → aligned_at (basic_alignment code) a ≡ Ok start → number_value_at order 117 start ≡ Ok h.0
value_number order code a start h same gone =
    let read = basic_number order code a start h.0 gone (ap is_text_code same) (sym (basic_same 63 order (basic code) code a refl) ∙ h.1) in
    ap (λ (k : ℕ). number_value_at order k start) (sym same) ∙ read

-- what is read of a value is what is read of it after its padding
pub value_as : (whole part : Result (Value × At) MsgError) (h : IsRead whole) (found : Value × At) → part ≡ Ok h.0 → part ≡ Ok found → whole ≡ Ok found
value_as whole part h found is got = h.1 ∙ sym is ∙ got

word_there : (order : Order) (a : At) (item : List ℕ × At) → item_at 4 a ≡ Ok item → word_at order a ≡ Ok (word_of order item.0, item.1)
unfolding word_at
word_there order a item is = rw is refl

pub number_word : (order : Order) (a : At) → IsRead (number_value_at order 117 a) → IsRead (word_at order a)
unfolding number_value_at
number_word order a h =
    let s = bind_ok (item_at 4 a) (λ bytes. count_at 117 (number_of order (width_of 117) bytes.0) bytes.1) h.0 h.1 in
    ((word_of order s.0.0, s.0.1), word_there order a s.0 s.1)

pub word_number : (order : Order) (a tail : At) (n : ℕ) → word_at order a ≡ Ok (n, tail) → number_value_at order 117 a ≡ Ok (number n, tail)
unfolding number_value_at word_at
word_number order a tail n e =
    let s = bind_ok (item_at 4 a) (λ bytes. Ok (word_of order bytes.0, bytes.1)) (n, tail) e in
    let made : ℕ × At = (word_of order s.0.0, s.0.1) in
    let same : made ≡ (n, tail) = ok_is made (n, tail) s.2 in
    rw s.1 (ap (λ (x : ℕ × At). Ok (number x.0, x.1)) same)

-- ---- the field

pub field_ends : (order : Order) (front : List Field) (a middle end : At) (byte : ℕ) (known : Option FieldCode) (content : DataType × Value) (field : Field) (tail : At) → known ≡ code_of byte → code_at front a ≡ Ok (byte, middle)
    → content_at order known middle ≡ Ok (content, end) → field_at order front a ≡ Ok (field, tail) → (byte ≡ field.code) × (end ≡ tail)
unfolding field_at
field_ends order front a middle end byte known content field tail named coded held e =
    let f = after (code_at front a) (λ code. content_at order (code_of code.0) code.1 >>= λ content. Ok (field_of code.0 content.0.0 content.0.1, content.1)) (byte, middle) (field, tail) e coded in
    let g = after (content_at order (code_of byte) middle) (λ content. Ok (field_of byte content.0.0 content.0.1, content.1)) (content, end) (field, tail) f (ap (λ (o : Option FieldCode). content_at order o middle) (sym named) ∙ held) in
    let made : Field × At = (field_of byte content.0 content.1, end) in
    let same : made ≡ (field, tail) = ok_is made (field, tail) g in
    (ap (λ (x : Field × At). x.0.code) same, ap (λ (x : Field × At). x.1) same)
