-- A message after its fixed part, by the slices that the code reads.
use Rattle.std.proofs.Common.{◌≡◌, ℕ, ◌+◌, ◌-◌, ◌≤◌, List, [], length, take, drop, Some, None, Result, Ok, Err, refl, sym, ap, subst, ◌∙◌, arith}
use Rattle.std.proofs.lemmas.List.{drop-drop, length-drop}
use Rattle.signature.specs.DataType.{SigText}
use Rattle.message_value.specs.declared.order.Order.{Order}
use Rattle.message_value.specs.declared.error.MsgError.{MsgError}
use Rattle.message_value.specs.Value.{Values}
use Rattle.message_value.specs.Spelling.{padding}
use Rattle.message_value.specs.Reading.{At, inside}
use Rattle.message_value.specs.Steps.{Gives}
use Rattle.message_value.specs.Bytes.{AreBytes}
use Rattle.message_view.specs.declared.fields.Fields.{Fields}
use Rattle.message_view.specs.declared.fixed.Fixed.{Fixed}
use Rattle.message_view.specs.declared.view.Sections.{Sections}
use Rattle.message_view.specs.Message.{Field, signature_in}
use Rattle.message_view.specs.Slots.{slots_of, AreExtents}
use Rattle.message_view.specs.Spelling.{body_place}
use Rattle.message_view.specs.Fixed.{order_in, fields_len, whole_len}
use Rattle.message_view.specs.Reading.{header_fault, header_padding, types_in, arguments_at, in_body, body_at, message_of, fields_of, fields_from, framed_message}
use Rattle.message_view.specs.HeaderAnswers.{body_of, HasHeader}
use Rattle.message_view.specs.FieldAnswers.{slots_shown, lying}
use Rattle.message_view.specs.FixedAnswers.{IsFixed}
use Rattle.message_view.proofs.BodyTypes.{types_spelled}
use Rattle.message_view.proofs.OneMessage.{fields_are}

-- what a reader of the fields was given, by what it answered
gave_fault : (fault : MsgError) (whole : Result (List Field) MsgError) → Gives {X = Fields} slots_shown slots_of (Err fault) whole → whole ≡ Err fault
gave_fault fault (Ok front) never = absurd never
gave_fault fault (Err other) is = ap (λ f. Err f) (sym is)

gave_fields : (fields : Fields) (whole : Result (List Field) MsgError) → Gives slots_shown slots_of (Ok fields) whole → (front : List Field) × (whole ≡ Ok front) × (slots_shown fields ≡ slots_of front)
gave_fields fields (Ok front) is = (front, refl, is)
gave_fields fields (Err other) never = absurd never

-- the array that the code cut out is the one that is read
pub array_is : (fixed : Fixed) (bytes tail array : List ℕ) → IsFixed fixed bytes → tail ≡ drop 16 bytes → array ≡ take fixed.fields_len tail → length array ≡ fixed.fields_len
    → fields_from (length array) fixed.order [] (inside 16 array) ≡ fields_of bytes
array_is fixed bytes tail array is tail_is front_is len =
    let cut : array ≡ take (fields_len bytes) (drop 16 bytes) = front_is ∙ rw (is.fields, tail_is) refl in
    rw (len, cut, is.order, is.fields) refl

-- and so are the bytes after it
pub skipped_is : (fixed : Fixed) (bytes tail rest skipped : List ℕ) (n : ℕ) → IsFixed fixed bytes → tail ≡ drop 16 bytes → rest ≡ drop fixed.fields_len tail → n ≡ padding 8 fixed.fields_len → skipped ≡ take n rest → skipped ≡ header_padding bytes
skipped_is fixed bytes tail rest skipped n is tail_is rest_is n_is front_is =
    front_is ∙ rw (n_is, rest_is, tail_is, is.fields) (ap (take (padding 8 (fields_len bytes))) (drop-drop _ _ bytes))

-- the body that the code cut off
pub body_is : (fixed : Fixed) (bytes tail rest body : List ℕ) (n : ℕ) → IsFixed fixed bytes → tail ≡ drop 16 bytes → rest ≡ drop fixed.fields_len tail → n ≡ padding 8 fixed.fields_len → body ≡ drop n rest → body ≡ body_of bytes
body_is fixed bytes tail rest body n is tail_is rest_is n_is back_is =
    back_is
    ∙ rw (n_is, rest_is, tail_is, is.fields) (ap (drop (padding 8 (fields_len bytes))) (drop-drop (fields_len bytes) 16 bytes) ∙ drop-drop (padding 8 (fields_len bytes)) (16 + fields_len bytes) bytes)

-- where it is read
pub cursor_is : (bytes body : List ℕ) (place : ℕ) (cursor : At) → length bytes ≡ whole_len bytes → body ≡ body_of bytes → place ≡ length bytes - length body → cursor ≡ in_body place body → cursor ≡ body_at bytes
cursor_is bytes body place cursor whole is left read_there =
    let len : length body ≡ length bytes - body_place (fields_len bytes) = ap (λ (x : List ℕ). length x) is ∙ length-drop (body_place (fields_len bytes)) bytes in
    let same : place ≡ body_place (fields_len bytes) = omega (arith, left, len, whole) in
    read_there ∙ rw (same, is) refl

pub fields_fail : (fixed : Fixed) (bytes : List ℕ) (whole : Result (List Field) MsgError) (fault : MsgError) → IsFixed fixed bytes → whole ≡ fields_of bytes → Gives {X = Fields} slots_shown slots_of (Err fault) whole → framed_message bytes ≡ Err fault
unfolding framed_message
fields_fail fixed bytes whole fault is same gave =
    let failed : fields_of bytes ≡ Err fault = sym same ∙ gave_fault fault whole gave in
    rw (is.kind, failed) refl

pub header_fails : (fixed : Fixed) (fields : Fields) (bytes skipped : List ℕ) (whole : Result (List Field) MsgError) (fault : MsgError) → IsFixed fixed bytes → whole ≡ fields_of bytes → Gives slots_shown slots_of (Ok fields) whole → skipped ≡ header_padding bytes
    → ((front : List Field) → slots_shown fields ≡ slots_of front → Some fault ≡ header_fault fixed.kind skipped front) → framed_message bytes ≡ Err fault
unfolding framed_message
header_fails fixed fields bytes skipped whole fault is same gave skip found =
    let f = gave_fields fields whole gave in
    let read : fields_of bytes ≡ Ok f.0 = sym same ∙ f.1 in
    let end : header_fault fixed.kind (header_padding bytes) f.0 ≡ Some fault = rw (← skip) (sym (found f.0 f.2)) in
    rw (is.kind, read, end) refl

-- what passes up to the body
pub record IsHeader (fixed : Fixed) (fields : Fields) (bytes : List ℕ) : Type 0 where
  pub front : List Field
  pub read : fields_of bytes ≡ Ok front
  pub shows : slots_shown fields ≡ slots_of front
  pub passes : header_fault fixed.kind (header_padding bytes) front ≡ None

pub header_passes : (fixed : Fixed) (fields : Fields) (bytes skipped : List ℕ) (whole : Result (List Field) MsgError) → whole ≡ fields_of bytes → Gives slots_shown slots_of (Ok fields) whole → skipped ≡ header_padding bytes
    → ((front : List Field) → slots_shown fields ≡ slots_of front → None ≡ header_fault fixed.kind skipped front) → IsHeader fixed fields bytes
header_passes fixed fields bytes skipped whole same gave skip found =
    let f = gave_fields fields whole gave in
    record { front = f.0; read = sym same ∙ f.1; shows = f.2; passes = rw (← skip) (sym (found f.0 f.2)) }

pub body_fails : (fixed : Fixed) (found : Sections) (bytes : List ℕ) (cursor : At) (fault : MsgError) → IsFixed fixed bytes → (header : HasHeader found fixed.kind bytes) → cursor ≡ body_at bytes → arguments_at fixed.order (types_in header.front) cursor ≡ Err fault → framed_message bytes ≡ Err fault
unfolding framed_message
body_fails fixed found bytes cursor fault is header place failed =
    let arguments : arguments_at (order_in bytes) (types_in header.front) (body_at bytes) ≡ Err fault = ap (λ (o : Order). arguments_at o (types_in header.front) (body_at bytes)) (sym is.order) ∙ ap (arguments_at fixed.order (types_in header.front)) (sym place) ∙ failed in
    rw (is.kind, header.read, header.passes, arguments) refl

pub body_passes : (fixed : Fixed) (found : Sections) (bytes : List ℕ) (cursor : At) (values : Values) → IsFixed fixed bytes → (header : HasHeader found fixed.kind bytes) → cursor ≡ body_at bytes → arguments_at fixed.order (types_in header.front) cursor ≡ Ok values → framed_message bytes ≡ Ok (message_of bytes fixed.kind header.front values)
unfolding framed_message
body_passes fixed found bytes cursor values is header place passed =
    let arguments : arguments_at (order_in bytes) (types_in header.front) (body_at bytes) ≡ Ok values = ap (λ (o : Order). arguments_at o (types_in header.front) (body_at bytes)) (sym is.order) ∙ ap (arguments_at fixed.order (types_in header.front)) (sym place) ∙ passed in
    rw (is.kind, header.read, header.passes, arguments) refl

-- the body is within the bytes
pub body_within : (bytes body : List ℕ) → body ≡ body_of bytes → length body ≤ length bytes
body_within bytes body is =
    let len : length body ≡ length bytes - body_place (fields_len bytes) = ap (λ (x : List ℕ). length x) is ∙ length-drop (body_place (fields_len bytes)) bytes in
    omega (arith, len)

-- where its texts lie
pub extents_there : (fixed : Fixed) (fields : Fields) (bytes : List ℕ) (front : List Field) → IsFixed fixed bytes → AreExtents fixed.order 16 front (lying fields) → AreExtents (order_in bytes) 16 front (lying fields)
extents_there fixed fields bytes front is are = subst (λ (o : Order). AreExtents o 16 front (lying fields)) is.order are

-- what its fields say of the types of its body
pub types_there : (bytes : List ℕ) (front : List Field) → AreBytes bytes → length bytes ≡ whole_len bytes → fields_of bytes ≡ Ok front → SigText (types_in front) (signature_in front)
types_there bytes front fits whole read = types_spelled (order_in bytes) 16 front (fields_are bytes front fits whole read).are
