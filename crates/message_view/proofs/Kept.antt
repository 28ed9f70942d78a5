-- What the slots of the known fields keep.
use Rattle.std.proofs.Common.{◌≡◌, ℕ, ◌++◌, [], ◌∷◌, Bool, true, false, cond, eqb, List, Option, Some, None, Ok, Err, map, refl, sym, ap, ◌∙◌}
use Rattle.std.specs.Prelude.{◌==◌, option_map, slice_set, slice_index_or}
use Rattle.std.proofs.lemmas.Bool.{eq-eqb, ne_eqb}
use Rattle.std.proofs.Math.ListN.{get_or-map}
use Rattle.std.proofs.lemmas.List.{map-set}
use Rattle.signature.specs.DataType.{DataType, basic}
use Rattle.message_value.specs.declared.order.Order.{Order}
use Rattle.message_value.specs.declared.error.MsgError.{MsgError}
use Rattle.message_value.specs.Value.{Value}
use Rattle.message_value.specs.Reading.{At}
use Rattle.message_view.specs.declared.content.Content.{Content}
use Rattle.message_view.specs.declared.field.FieldCode.{FieldCode}
use Rattle.message_view.specs.declared.field.FieldCode.TheVariants as codes
use Rattle.message_view.specs.Header.{code_of, type_code}
use Rattle.message_view.specs.Slots.{code_byte, Slots, slot_of, slots_of}
use Rattle.message_view.specs.Message.{Field, field_with}
use Rattle.message_view.specs.Reading.{code_at, content_at, field_at}
use Rattle.message_view.specs.FieldAnswers.{value_of}
use Rattle.message_view.proofs.ReadFields.{code_byte-code_of, once_at, field_of, code_takes}

-- a slot shows its value
pub slot_shown : (slots : List (Option Content)) (i j : ℕ) → i ≡ j → option_map value_of (slice_index_or slots i None) ≡ slice_index_or (map (option_map value_of) slots) j None
slot_shown slots i j e = rw e (sym (get_or-map (option_map value_of) slots j None))

-- a written slot shows the new value, and the others what they did
pub slot_written : (slots : List (Option Content)) (i j : ℕ) (content : Content) → i ≡ j → map (option_map value_of) (slice_set slots i (Some content)) ≡ slice_set (map (option_map value_of) slots) j (Some (value_of content))
slot_written slots i j content e = rw e (map-set (option_map value_of) slots j (Some content))

abbrev or_value : Option Value → Option Value → Option Value
or_value (Some value) later = Some value
or_value None later = later

or_none : (value : Option Value) → or_value value None ≡ value
or_none (Some value) = refl
or_none None = refl

-- the value of a code in a list with one more field
more_fields : (code : ℕ) (front : List Field) (field : Field) → field_with code (front ++ field ∷ []) ≡ or_value (field_with code front) (cond (field.code == code) (Some field.value) None)
more_fields code [] field = refl
more_fields code (first ∷ front) field = go (first.code == code) (more_fields code front field)
  where
    go : (b : Bool) → field_with code (front ++ field ∷ []) ≡ or_value (field_with code front) (cond (field.code == code) (Some field.value) None)
        → cond b (Some first.value) (field_with code (front ++ field ∷ [])) ≡ or_value (cond b (Some first.value) (field_with code front)) (cond (field.code == code) (Some field.value) None)
    go true e = refl
    go false e = e

-- the slots with one known field more
pub slots_more : (front : List Field) (code : FieldCode) (type : DataType) (value : Value) → field_with (code_byte code) front ≡ None
    → slice_set (slots_of front) (slot_of code) (Some value) ≡ slots_of (front ++ field_of (code_byte code) type value ∷ [])
slots_more front code type value none = go code own other
  where
    field : Field
    field = field_of (code_byte code) type value

    own : field_with (code_byte code) (front ++ field ∷ []) ≡ Some value
    own = more_fields (code_byte code) front field ∙ rw (none, eq-eqb (code_byte code) (code_byte code) refl) refl

    other : (k : ℕ) → (code_byte code == k) ≡ false → field_with k (front ++ field ∷ []) ≡ field_with k front
    other k differ = more_fields k front field ∙ rw differ (or_none (field_with k front))

    go : (c : FieldCode) → field_with (code_byte c) (front ++ field ∷ []) ≡ Some value → ((k : ℕ) → (code_byte c == k) ≡ false → field_with k (front ++ field ∷ []) ≡ field_with k front)
        → slice_set (slots_of front) (slot_of c) (Some value) ≡ slots_of (front ++ field ∷ [])
    go codes.Path own other = cc (own, other 2 refl, other 3 refl, other 4 refl, other 5 refl, other 6 refl, other 7 refl, other 8 refl, other 9 refl)
    go codes.Interface own other = cc (own, other 1 refl, other 3 refl, other 4 refl, other 5 refl, other 6 refl, other 7 refl, other 8 refl, other 9 refl)
    go codes.Member own other = cc (own, other 1 refl, other 2 refl, other 4 refl, other 5 refl, other 6 refl, other 7 refl, other 8 refl, other 9 refl)
    go codes.ErrorName own other = cc (own, other 1 refl, other 2 refl, other 3 refl, other 5 refl, other 6 refl, other 7 refl, other 8 refl, other 9 refl)
    go codes.ReplySerial own other = cc (own, other 1 refl, other 2 refl, other 3 refl, other 4 refl, other 6 refl, other 7 refl, other 8 refl, other 9 refl)
    go codes.Destination own other = cc (own, other 1 refl, other 2 refl, other 3 refl, other 4 refl, other 5 refl, other 7 refl, other 8 refl, other 9 refl)
    go codes.Sender own other = cc (own, other 1 refl, other 2 refl, other 3 refl, other 4 refl, other 5 refl, other 6 refl, other 8 refl, other 9 refl)
    go codes.Signature own other = cc (own, other 1 refl, other 2 refl, other 3 refl, other 4 refl, other 5 refl, other 6 refl, other 7 refl, other 9 refl)
    go codes.UnixFds own other = cc (own, other 1 refl, other 2 refl, other 3 refl, other 4 refl, other 5 refl, other 6 refl, other 7 refl, other 8 refl)

-- a field of which nothing is known changes none of them
slots_same : (front : List Field) (field : Field) → code_of field.code ≡ None → slots_of front ≡ slots_of (front ++ field ∷ [])
slots_same front field unknown =
    cc (other 1 codes.Path refl, other 2 codes.Interface refl, other 3 codes.Member refl, other 4 codes.ErrorName refl, other 5 codes.ReplySerial refl, other 6 codes.Destination refl, other 7 codes.Sender refl, other 8 codes.Signature refl, other 9 codes.UnixFds refl)
  where
    other : (k : ℕ) (named : FieldCode) → code_of k ≡ Some named → field_with k front ≡ field_with k (front ++ field ∷ [])
    other k named is =
        let differ : eqb field.code k ≡ false = ne_eqb field.code k (λ same. let no : Some named ≡ None = sym is ∙ ap code_of (sym same) ∙ unknown in absurd cc) in
        sym (more_fields k front field ∙ rw differ (or_none (field_with k front)))

-- a known field that was read, with the slots after it
pub kept_next : (order : Order) (front : List Field) (old middle tail : At) (byte : ℕ) (code : FieldCode) (value : Value) (slots kept : Slots) → slots ≡ slots_of front → kept ≡ slice_set slots (slot_of code) (Some value)
    → Some code ≡ code_of byte → code_at front old ≡ Ok (byte, middle) → content_at order (Some code) middle ≡ Ok ((basic (type_code code), value), tail)
    → (field_at order front old ≡ Ok (field_of (code_byte code) (basic (type_code code)) value, tail)) × (kept ≡ slots_of (front ++ field_of (code_byte code) (basic (type_code code)) value ∷ []))
unfolding field_at
kept_next order front old middle tail byte code value slots kept is put named coded valued =
    let byte_is : code_byte code ≡ byte = code_byte-code_of byte code (sym named) in
    let content : content_at order (code_of byte) middle ≡ Ok ((basic (type_code code), value), tail) = rw (← named) valued in
    let once : field_with (code_byte code) front ≡ None = ap (λ (k : ℕ). field_with k front) byte_is ∙ once_at (code_of byte) byte front code (code_takes front old (byte, middle) coded).3 (sym named) in (
      rw (coded, content) (ap (λ (k : ℕ). Ok (field_of k (basic (type_code code)) value, tail)) (sym byte_is)),
      put ∙ rw is (slots_more front code (basic (type_code code)) value once),
    )

-- a field of which nothing is known
pub passed_next : (order : Order) (front : List Field) (old middle tail : At) (byte : ℕ) (slots : Slots) (type : DataType) (value : Value) → slots ≡ slots_of front
    → None ≡ code_of byte → code_at front old ≡ Ok (byte, middle) → content_at order None middle ≡ Ok ((type, value), tail)
    → (field_at order front old ≡ Ok (field_of byte type value, tail)) × (slots ≡ slots_of (front ++ field_of byte type value ∷ []))
unfolding field_at
passed_next order front old middle tail byte slots type value is unknown coded passed =
    let content : content_at order (code_of byte) middle ≡ Ok ((type, value), tail) = rw (← unknown) passed in
    (rw (coded, content) refl, is ∙ slots_same front (field_of byte type value) (sym unknown))

pub passed_fault : (order : Order) (front : List Field) (old middle : At) (byte : ℕ) (fault : MsgError) → None ≡ code_of byte → code_at front old ≡ Ok (byte, middle) → content_at order None middle ≡ Err fault → field_at order front old ≡ Err fault
unfolding field_at
passed_fault order front old middle byte fault unknown coded failed =
    let content : content_at order (code_of byte) middle ≡ Err fault = rw (← unknown) failed in
    rw (coded, content) refl

pub no_code : (order : Order) (front : List Field) (old : At) (fault : MsgError) → code_at front old ≡ Err fault → field_at order front old ≡ Err fault
unfolding field_at
no_code order front old fault coded = rw coded refl

pub no_content : (order : Order) (front : List Field) (old middle : At) (byte : ℕ) (code : FieldCode) (fault : MsgError) → Some code ≡ code_of byte → code_at front old ≡ Ok (byte, middle) → content_at order (Some code) middle ≡ Err fault → field_at order front old ≡ Err fault
unfolding field_at
no_content order front old middle byte code fault named coded valued =
    let content : content_at order (code_of byte) middle ≡ Err fault = rw (← named) valued in
    rw (coded, content) refl
