-- The extents that are kept of the fields that were read.
use Rattle.std.proofs.Common.{◌≡◌, ℕ, ◌+◌, ◌<◌, ◌≢◌, Bool, true, false, eqb, List, [], ◌∷◌, ◌++◌, length, map, Option, Some, None, Result, Ok, Err, refl, sym, ap, subst, ◌∙◌, add-zero, arith, get_or-set_same, get_or-set_other}
use Rattle.std.specs.Prelude.{option_map, slice_set, slice_index_or}
use Rattle.std.proofs.lemmas.Bool.{eqb-true, eqb-false, eq-eqb, ne_eqb}
use Rattle.std.proofs.Math.ListN.{get_or-map, length-map}
use Rattle.std.proofs.lemmas.List.{map-set}
use Rattle.signature.specs.DataType.{basic}
use Rattle.message_value.specs.declared.order.Order.{Order}
use Rattle.message_value.specs.declared.error.MsgError.{MsgError}
use Rattle.message_value.specs.Reading.{At}
use Rattle.message_value.specs.Answers.{Checks}
use Rattle.message_value.specs.Bytes.{AreBytes}
use Rattle.message_view.specs.declared.content.Content.{Content}
use Rattle.message_view.specs.declared.fields.Fields.{Fields}
use Rattle.message_view.specs.declared.extent.Extent.{Extent}
use Rattle.message_view.specs.declared.extent.TextField.{TextField}
use Rattle.message_view.specs.declared.extent.TextField.TheVariants as names
use Rattle.message_view.specs.declared.field.FieldCode.{FieldCode}
use Rattle.message_view.specs.declared.field.FieldCode.TheVariants as codes
use Rattle.message_view.specs.Header.{code_of, type_code}
use Rattle.message_view.specs.Slots.{code_byte, Slots, Extents, no_slots, no_extents, slot_of, slots_of, named_code, extent_in, AreExtents}
use Rattle.message_view.specs.Message.{Field, field_with}
use Rattle.message_view.specs.Spelling.{field_bytes, fields_bytes}
use Rattle.message_view.specs.Places.{text_field_code, text_extent, extent_from}
use Rattle.message_view.specs.Reading.{code_at, content_at, field_at}
use Rattle.message_view.specs.FieldAnswers.{value_of, lies_in, extent_before, slots_shown, lying, LiesBefore, IsFront, KeepsNext}
use Rattle.message_view.proofs.ReadFields.{once_at, field_of, field_takes}
use Rattle.message_view.proofs.TextPlaces.{fields_push, extent_other, extent_new, name_before}
use Rattle.message_view.proofs.Kept.{kept_next, passed_next, passed_fault}

-- a slot's extent
pub slot_lies : (slots : List (Option Content)) (i j : ℕ) → i ≡ j → lies_in (slice_index_or slots i None) ≡ slice_index_or (map lies_in slots) j None
slot_lies slots i j e = rw e (sym (get_or-map lies_in slots j None))

pub slot_lies_written : (slots : List (Option Content)) (i j : ℕ) (content : Content) → i ≡ j → map lies_in (slice_set slots i (Some content)) ≡ slice_set (map lies_in slots) j (lies_in (Some content))
slot_lies_written slots i j content e = rw e (map-set lies_in slots j (Some content))

-- ---- codes and slots

named_byte : (name : TextField) → code_byte (named_code name) ≡ text_field_code name
named_byte names.Path = refl
named_byte names.Interface = refl
named_byte names.Member = refl
named_byte names.ErrorName = refl
named_byte names.Destination = refl
named_byte names.Sender = refl

named_known : (name : TextField) → code_of (text_field_code name) ≡ Some (named_code name)
named_known names.Path = refl
named_known names.Interface = refl
named_known names.Member = refl
named_known names.ErrorName = refl
named_known names.Destination = refl
named_known names.Sender = refl

pub code_again : (code : FieldCode) → code_of (code_byte code) ≡ Some code
code_again codes.Path = refl
code_again codes.Interface = refl
code_again codes.Member = refl
code_again codes.ErrorName = refl
code_again codes.ReplySerial = refl
code_again codes.Destination = refl
code_again codes.Sender = refl
code_again codes.Signature = refl
code_again codes.UnixFds = refl

slot_byte : (code : FieldCode) → (slot_of code + 1 ≡ code_byte code) × (slot_of code < 9)
slot_byte codes.Path = (refl, omega arith)
slot_byte codes.Interface = (refl, omega arith)
slot_byte codes.Member = (refl, omega arith)
slot_byte codes.ErrorName = (refl, omega arith)
slot_byte codes.ReplySerial = (refl, omega arith)
slot_byte codes.Destination = (refl, omega arith)
slot_byte codes.Sender = (refl, omega arith)
slot_byte codes.Signature = (refl, omega arith)
slot_byte codes.UnixFds = (refl, omega arith)

-- ---- one more field

-- the extents with one known field more
extents_more : (order : Order) (start : ℕ) (front : List Field) (extents : Extents) (code : FieldCode) (field : Field) (end : ℕ) (extent : Option Extent) → length extents ≡ 9 → field.code ≡ code_byte code → field_with (code_byte code) front ≡ None
    → end ≡ start + length (fields_bytes order start front) → ((name : TextField) → named_code name ≡ code → extent ≡ text_extent end field)
    → AreExtents order start front extents → AreExtents order start (front ++ field ∷ []) (slice_set extents (slot_of code) extent)
extents_more order start front extents code field end extent nine coded once is own are = λ name. go name (eqb (code_byte code) (text_field_code name)) refl
  where
    go : (name : TextField) (b : Bool) → eqb (code_byte code) (text_field_code name) ≡ b → extent_in (slice_set extents (slot_of code) extent) name ≡ extent_from order start (text_field_code name) (front ++ field ∷ [])
    go name true e =
        let same : code_byte code ≡ text_field_code name = eqb-true _ _ e in
        let known : Some (named_code name) ≡ Some code = sym (named_known name) ∙ ap code_of (sym same) ∙ code_again code in
        let is_code : named_code name ≡ code = cc in
        let here : eqb field.code (text_field_code name) ≡ true = eq-eqb _ _ (coded ∙ same) in
        let none : field_with (text_field_code name) front ≡ None = ap (λ (k : ℕ). field_with k front) (sym same) ∙ once in
        let lt : slot_of code < length extents = omega (arith, nine, (slot_byte code).1) in
        ap (λ (c : FieldCode). slice_index_or (slice_set extents (slot_of code) extent) (slot_of c) None) is_code
        ∙ get_or-set_same extents (slot_of code) extent None lt
        ∙ own name is_code
        ∙ sym (extent_new order start (text_field_code name) front field end none here is)
    go name false e =
        let ne : slot_of (named_code name) ≢ slot_of code = λ same. eqb-false _ _ e (omega (arith, same, (slot_byte code).0, (slot_byte (named_code name)).0, named_byte name)) in
        let other : eqb field.code (text_field_code name) ≡ false = rw coded e in
        get_or-set_other extents (slot_of code) (slot_of (named_code name)) extent None ne
        ∙ are name
        ∙ sym (extent_other order start (text_field_code name) front field other)

-- a field of which nothing is known changes none of them
extents_same : (order : Order) (start : ℕ) (front : List Field) (extents : Extents) (field : Field) → code_of field.code ≡ None → AreExtents order start front extents → AreExtents order start (front ++ field ∷ []) extents
extents_same order start front extents field unknown are = λ name.
    let other : eqb field.code (text_field_code name) ≡ false = ne_eqb _ _ (λ same. let no : Some (named_code name) ≡ None = sym (named_known name) ∙ ap code_of (sym same) ∙ unknown in absurd cc) in
    are name ∙ sym (extent_other order start (text_field_code name) front field other)

-- what is kept with one more field
front_push : (order : Order) (start : ℕ) (front : List Field) (fields kept : Fields) (old tail : At) (field : Field) → IsFront order start front fields old → field_at order front old ≡ Ok (field, tail)
    → slots_shown kept ≡ slots_of (front ++ field ∷ []) → AreExtents order start (front ++ field ∷ []) (lying kept) → IsFront order start (front ++ field ∷ []) kept tail
front_push order start front fields kept old tail field is read shows lie =
    let r = field_takes order front old (field, tail) is.fits read in
    record { shows = shows; lie = lie; fits = r.takes.fits is.fits; place = r.takes.place ∙ sym (fields_push order start front field old.place is.place) }

-- ---- what a turn keeps

-- a known field that was read
pub front_next : (order : Order) (start : ℕ) (front : List Field) (fields kept : Fields) (old middle tail : At) (byte : ℕ) (code : FieldCode) (content : Content) → IsFront order start front fields old
    → slots_shown kept ≡ slice_set (slots_shown fields) (slot_of code) (Some (value_of content)) → lying kept ≡ slice_set (lying fields) (slot_of code) (lies_in (Some content)) → LiesBefore tail.place content
    → Some code ≡ code_of byte → code_at front old ≡ Ok (byte, middle) → content_at order (Some code) middle ≡ Ok ((basic (type_code code), value_of content), tail)
    → (field : Field) × (field_at order front old ≡ Ok (field, tail)) × IsFront order start (front ++ field ∷ []) kept tail
front_next order start front fields kept old middle tail byte code content is shows lies before named coded valued =
    let field = field_of (code_byte code) (basic (type_code code)) (value_of content) in
    let n = kept_next order front old middle tail byte code (value_of content) (slots_shown fields) (slots_shown kept) is.shows shows named coded valued in
    let r = field_takes order front old (field, tail) is.fits n.0 in
    let once : field_with (code_byte code) front ≡ None = once_at (code_of (code_byte code)) (code_byte code) front code r.once (code_again code) in
    let nine : length (lying fields) ≡ 9 = length-map fields.slots lies_in ∙ sym (length-map fields.slots (option_map value_of)) ∙ ap (λ (x : Slots). length x) is.shows in
    let own : (name : TextField) → named_code name ≡ code → lies_in (Some content) ≡ text_extent old.place field = λ name same.
    before ∙ subst (λ (c : FieldCode). tail.place ≡ old.place + length (field_bytes order old.place (field_of (code_byte code) (basic (type_code c)) (value_of content))) → extent_before tail.place (value_of content) ≡ text_extent old.place (field_of (code_byte code) (basic (type_code c)) (value_of content))) same (name_before order old.place (code_byte code) tail.place name (value_of content)) r.takes.place in
    let more = extents_more order start front (lying fields) code field old.place (lies_in (Some content)) nine refl once is.place own is.lie in
    (field, n.0, front_push order start front fields kept old tail field is n.0 n.1 (rw lies more))

-- what a reader of a field's content answers, where nothing is known of the field
pub front_passed : {X : Type 0} (order : Order) (start : ℕ) (front : List Field) (fields : Fields) (old middle tail : At) (byte : ℕ) (result : Result X MsgError) → IsFront order start front fields old
    → None ≡ code_of byte → code_at front old ≡ Ok (byte, middle) → Checks result tail (content_at order None middle)
    → KeepsNext result order start front fields tail (field_at order front old)
front_passed order start front fields old middle tail byte (Ok x) is unknown coded checks =
    let n = passed_next order front old middle tail byte (slots_shown fields) checks.0.0 checks.0.1 is.shows unknown coded checks.1 in
    let field = field_of byte checks.0.0 checks.0.1 in
    (field, n.0, front_push order start front fields fields old tail field is n.0 n.1 (extents_same order start front (lying fields) field (sym unknown) is.lie))
front_passed order start front fields old middle tail byte (Err fault) is unknown coded checks = passed_fault order front old middle byte fault unknown coded checks

-- ---- before the first field

pub front_none : (order : Order) (start : ℕ) (fields : Fields) (at : At) → slots_shown fields ≡ no_slots → lying fields ≡ no_extents → AreBytes at.rest → at.place ≡ start → IsFront order start [] fields at
front_none order start fields at shows lie fits place = record { shows = shows; lie = λ name. rw lie (none name); fits = fits; place = place ∙ sym (add-zero start) }
  where
    none : (name : TextField) → extent_in no_extents name ≡ None
    none names.Path = refl
    none names.Interface = refl
    none names.Member = refl
    none names.ErrorName = refl
    none names.Destination = refl
    none names.Sender = refl
