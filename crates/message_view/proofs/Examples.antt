-- Worked examples: one signal in both orders, what each damage to it is called, and one with a body.
use Rattle.std.proofs.Common.{◌≡◌, ℕ, suc, ◌<◌, true, false, eqb, List, [], ◌∷◌, ◌++◌, length, set, take, drop, Some, None, Ok, Err, refl, ◌∙◌, arith}
use Rattle.std.specs.Str.{is_utf8}
use Rattle.std.proofs.lemmas.Bool.{ne_eqb}
use Rattle.std.proofs.lemmas.Str.{IsUtf8-from_ascii, is_utf8-from_IsUtf8}
use Rattle.std.proofs.lemmas.Str.Ascii.{IsAscii-nil, IsAscii-cons}
use Rattle.signature.specs.DataType.{basic, no_types, one_more}
use Rattle.signature.proofs.TreesOfTexts.{tree_spelled, trees_spelled}
use Rattle.message_value.specs.declared.order.Order.{Order}
use Rattle.message_value.specs.declared.order.Order.TheVariants.{Little, Big}
use Rattle.message_value.specs.declared.error.MsgError.{MsgError}
use Rattle.message_value.specs.declared.error.MsgError.TheVariants as faults
use Rattle.message_value.specs.Value.{text, no_values, one_value}
use Rattle.message_value.specs.Fits.{is_text_of}
use Rattle.message_value.specs.Reading.{At, inside, value_by, signature_at, text_value_at, long_text_at, short_text_at, text_at, number_value_at, word_at, byte_at, aligned_at, item_at}
use Rattle.message_view.specs.declared.kind.Kind.TheVariants.{Signal}
use Rattle.message_view.specs.Message.{Field, Message}
use Rattle.message_view.specs.Spelling.{fields_bytes, message_bytes, arguments_of}
use Rattle.message_view.specs.Valid.{IsField, Valid}
use Rattle.message_view.specs.Fixed.{framing}
use Rattle.message_view.specs.Reading.{fields_from, content_at, code_at, field_at, framed_message, message_at}
use Rattle.message_view.proofs.ReadFields.{field_again}
use Rattle.message_view.proofs.FieldArrays.{nothing_front, fields_again}
use Rattle.message_view.proofs.OneMessage.{valid_reads}

dotted : is_utf8 (97 ∷ 46 ∷ 98 ∷ []) ≡ true
dotted = is_utf8-from_IsUtf8 _ (IsUtf8-from_ascii _ (IsAscii-cons 97 (46 ∷ 98 ∷ []) (omega arith) (IsAscii-cons 46 (98 ∷ []) (omega arith) (IsAscii-cons 98 [] (omega arith) IsAscii-nil))))

short : is_utf8 (99 ∷ []) ≡ true
short = is_utf8-from_IsUtf8 _ (IsUtf8-from_ascii _ (IsAscii-cons 99 [] (omega arith) IsAscii-nil))

-- ---- path `/a`, interface `a.b`, member `c`

abbrev path_field : Field
path_field = record { code = 1; type = basic 111; value = text (47 ∷ 97 ∷ []) }

abbrev interface_field : Field
interface_field = record { code = 2; type = basic 115; value = text (97 ∷ 46 ∷ 98 ∷ []) }

abbrev member_field : Field
member_field = record { code = 3; type = basic 115; value = text (99 ∷ []) }

abbrev three : List Field
three = path_field ∷ interface_field ∷ member_field ∷ []

path_is : (order : Order) → IsField order 16 path_field
path_is order = record { code_above = omega arith; code_fits = omega arith; typed = tree_spelled (basic 111) (111 ∷ []) refl; shaped = (refl, omega arith); allowed = (refl, (refl, refl)) }

interface_text : is_text_of 115 (97 ∷ 46 ∷ 98 ∷ []) ≡ true
interface_text = rw dotted refl

interface_is : (order : Order) → IsField order 27 interface_field
interface_is order = record { code_above = omega arith; code_fits = omega arith; typed = tree_spelled (basic 115) (115 ∷ []) refl; shaped = (interface_text, omega arith); allowed = (refl, (refl, refl)) }

member_text : is_text_of 115 (99 ∷ []) ≡ true
member_text = rw short refl

member_is : (order : Order) → IsField order 44 member_field
member_is order = record { code_above = omega arith; code_fits = omega arith; typed = tree_spelled (basic 115) (115 ∷ []) refl; shaped = (member_text, omega arith); allowed = (refl, (refl, refl)) }

abbrev signal : Order → Message
signal order = record { order = order; kind = Signal; flags = 0; serial = 1; fields = three; types = no_types; arguments = no_values }

abbrev little : List ℕ
little = 108 ∷ 4 ∷ 0 ∷ 1 ∷ 0 ∷ 0 ∷ 0 ∷ 0 ∷ 1 ∷ 0 ∷ 0 ∷ 0 ∷ 42 ∷ 0 ∷ 0 ∷ 0 ∷ 1 ∷ 1 ∷ 111 ∷ 0 ∷ 2 ∷ 0 ∷ 0 ∷ 0 ∷ 47 ∷ 97 ∷ 0 ∷ 0 ∷ 0 ∷ 0 ∷ 0 ∷ 0 ∷ 2 ∷ 1 ∷ 115 ∷ 0 ∷ 3 ∷ 0 ∷ 0 ∷ 0 ∷ 97 ∷ 46 ∷ 98 ∷ 0 ∷ 0 ∷ 0 ∷ 0 ∷ 0 ∷ 3 ∷ 1 ∷ 115 ∷ 0 ∷ 1 ∷ 0 ∷ 0 ∷ 0 ∷ 99 ∷ 0 ∷ 0 ∷ 0 ∷ 0 ∷ 0 ∷ 0 ∷ 0 ∷ []

abbrev big : List ℕ
big = 66 ∷ 4 ∷ 0 ∷ 1 ∷ 0 ∷ 0 ∷ 0 ∷ 0 ∷ 0 ∷ 0 ∷ 0 ∷ 1 ∷ 0 ∷ 0 ∷ 0 ∷ 42 ∷ 1 ∷ 1 ∷ 111 ∷ 0 ∷ 0 ∷ 0 ∷ 0 ∷ 2 ∷ 47 ∷ 97 ∷ 0 ∷ 0 ∷ 0 ∷ 0 ∷ 0 ∷ 0 ∷ 2 ∷ 1 ∷ 115 ∷ 0 ∷ 0 ∷ 0 ∷ 0 ∷ 3 ∷ 97 ∷ 46 ∷ 98 ∷ 0 ∷ 0 ∷ 0 ∷ 0 ∷ 0 ∷ 3 ∷ 1 ∷ 115 ∷ 0 ∷ 0 ∷ 0 ∷ 0 ∷ 1 ∷ 99 ∷ 0 ∷ 0 ∷ 0 ∷ 0 ∷ 0 ∷ 0 ∷ 0 ∷ []

spelled_little : message_bytes (signal Little) ≡ little
spelled_little = refl

spelled_big : message_bytes (signal Big) ≡ big
spelled_big = refl

valid_little : Valid little (signal Little)
valid_little = record {
  kind = refl;
  kind_fits = omega arith;
  flags = omega arith;
  serial = omega arith;
  serial_fits = omega arith;
  fields = (path_is Little, refl, (interface_is Little, refl, (member_is Little, refl, tt)));
  required = refl;
  types = trees_spelled no_types [] refl;
  arguments = tt;
  fields_fit = omega arith;
  fits = omega arith;
  spelled = refl;
}

valid_big : Valid big (signal Big)
valid_big = record {
  kind = refl;
  kind_fits = omega arith;
  flags = omega arith;
  serial = omega arith;
  serial_fits = omega arith;
  fields = (path_is Big, refl, (interface_is Big, refl, (member_is Big, refl, tt)));
  required = refl;
  types = trees_spelled no_types [] refl;
  arguments = tt;
  fields_fit = omega arith;
  fits = omega arith;
  spelled = refl;
}

reads_little : message_at little ≡ Ok (signal Little)
reads_little = valid_reads little (signal Little) valid_little

reads_big : message_at big ≡ Ok (signal Big)
reads_big = valid_reads big (signal Big) valid_big

-- ---- damages

-- the three fields, whatever follows them
one_turn : (turns : ℕ) (front : List Field) (a : At) (found : Field × At) → 0 < length a.rest → field_at Little front a ≡ Ok found → fields_from (suc turns) Little front a ≡ fields_from turns Little (front ++ found.0 ∷ []) found.1
one_turn turns front a found lt e =
    let some : eqb (length a.rest) 0 ≡ false = ne_eqb _ _ (λ e. omega arith) in
    rw (some, e) refl

fails : (turns : ℕ) (front : List Field) (a : At) (fault : MsgError) → 0 < length a.rest → field_at Little front a ≡ Err fault → fields_from (suc turns) Little front a ≡ Err fault
fails turns front a fault lt e =
    let some : eqb (length a.rest) 0 ≡ false = ne_eqb _ _ (λ e. omega arith) in
    rw (some, e) refl

abbrev three_bytes : List ℕ
three_bytes = fields_bytes Little 16 three

abbrev two_fields : List Field
two_fields = path_field ∷ interface_field ∷ []

two_read : (turns : ℕ) (rest : List ℕ) → fields_from (suc (suc turns)) Little [] (inside 16 (take 28 three_bytes ++ rest)) ≡ fields_from turns Little two_fields (inside 44 rest)
two_read turns rest =
    let tail = drop 11 (take 28 three_bytes) ++ rest in
    one_turn (suc turns) [] (inside 16 (take 28 three_bytes ++ rest)) (path_field, inside 27 tail) (omega arith) (field_again Little [] path_field 16 faults.ArrayLength tail (path_is Little) refl)
    ∙ one_turn turns (path_field ∷ []) (inside 27 tail) (interface_field, inside 44 rest) (omega arith) (field_again Little (path_field ∷ []) interface_field 27 faults.ArrayLength rest (interface_is Little) refl)

three_read : (turns : ℕ) (rest : List ℕ) → fields_from (suc (suc (suc turns))) Little [] (inside 16 (three_bytes ++ rest)) ≡ fields_from turns Little three (inside 58 rest)
three_read turns rest =
    let tail = drop 28 three_bytes ++ rest in
    two_read (suc turns) tail
    ∙ one_turn turns two_fields (inside 44 tail) (member_field, inside 58 rest) (omega arith) (field_again Little two_fields member_field 44 faults.ArrayLength rest (member_is Little) refl)

fields_read : fields_from 42 Little [] (inside 16 three_bytes) ≡ Ok three
fields_read = fields_again 42 Little [] three 16 faults.ArrayLength (path_is Little, refl, (interface_is Little, refl, (member_is Little, refl, tt))) (nothing_front three) (omega arith)

byte_0_120 : message_at (set little 0 120) ≡ Err faults.Order
unfolding message_at framed_message
byte_0_120 = refl

byte_1_0 : message_at (set little 1 0) ≡ Err faults.Kind
unfolding message_at framed_message
byte_1_0 = refl

byte_1_2 : message_at (set little 1 2) ≡ Err faults.FieldMissing
unfolding message_at framed_message
byte_1_2 = rw fields_read refl

byte_3_2 : message_at (set little 3 2) ≡ Err faults.Version
unfolding message_at framed_message
byte_3_2 = refl

byte_8_0 : message_at (set little 8 0) ≡ Err faults.Serial
unfolding message_at framed_message
byte_8_0 = refl

cut_off : field_at Little three (inside 58 (0 ∷ [])) ≡ Err faults.ArrayLength
unfolding field_at code_at content_at signature_at value_by text_value_at long_text_at short_text_at text_at number_value_at word_at byte_at aligned_at item_at
cut_off = refl

fields_cut : fields_from 43 Little [] (inside 16 (three_bytes ++ 0 ∷ [])) ≡ Err faults.ArrayLength
fields_cut = three_read 40 (0 ∷ []) ∙ fails 39 three (inside 58 (0 ∷ [])) faults.ArrayLength (omega arith) cut_off

byte_12_43 : message_at (set little 12 43) ≡ Err faults.ArrayLength
unfolding message_at framed_message
byte_12_43 = rw fields_cut refl

byte_16_2 : message_at (set little 16 2) ≡ Err faults.FieldType
unfolding message_at framed_message field_at code_at content_at signature_at value_by text_value_at long_text_at short_text_at text_at number_value_at word_at byte_at aligned_at item_at
byte_16_2 = refl

byte_24_120 : message_at (set little 24 120) ≡ Err faults.BadName
unfolding message_at framed_message field_at code_at content_at signature_at value_by text_value_at long_text_at short_text_at text_at number_value_at word_at byte_at aligned_at item_at
byte_24_120 = refl

byte_27_1 : message_at (set little 27 1) ≡ Err faults.Padding
unfolding message_at framed_message field_at code_at content_at signature_at value_by text_value_at long_text_at short_text_at text_at number_value_at word_at byte_at aligned_at item_at
byte_27_1 = refl

byte_63_1 : message_at (set little 63 1) ≡ Err faults.Padding
unfolding message_at framed_message
byte_63_1 = rw fields_read refl

byte_32_1 : message_at (set little 32 1) ≡ Err faults.FieldTwice
unfolding message_at framed_message field_at code_at content_at signature_at value_by text_value_at long_text_at short_text_at text_at number_value_at word_at byte_at aligned_at item_at
byte_32_1 = refl

code_zero : field_at Little two_fields (inside 44 (set (drop 28 three_bytes) 4 0)) ≡ Err faults.FieldCode
unfolding field_at code_at content_at signature_at value_by text_value_at long_text_at short_text_at text_at number_value_at word_at byte_at aligned_at item_at
code_zero = refl

fields_zero : fields_from 42 Little [] (inside 16 (set three_bytes 32 0)) ≡ Err faults.FieldCode
fields_zero = two_read 40 (set (drop 28 three_bytes) 4 0) ∙ fails 39 two_fields (inside 44 (set (drop 28 three_bytes) 4 0)) faults.FieldCode (omega arith) code_zero

byte_48_0 : message_at (set little 48 0) ≡ Err faults.FieldCode
unfolding message_at framed_message
byte_48_0 = rw fields_zero refl

-- a field of a code that isn't known may be there, and the member then isn't
abbrev unknown_field : Field
unknown_field = record { code = 10; type = basic 115; value = text (99 ∷ []) }

unknown_is : IsField Little 44 unknown_field
unknown_is = record { code_above = omega arith; code_fits = omega arith; typed = tree_spelled (basic 115) (115 ∷ []) refl; shaped = (member_text, omega arith); allowed = tt }

fields_unknown : fields_from 42 Little [] (inside 16 (set three_bytes 32 10)) ≡ Ok (two_fields ++ unknown_field ∷ [])
fields_unknown = fields_again 42 Little [] (two_fields ++ unknown_field ∷ []) 16 faults.ArrayLength (path_is Little, refl, (interface_is Little, refl, (unknown_is, tt, tt))) (nothing_front (two_fields ++ unknown_field ∷ [])) (omega arith)

byte_48_10 : message_at (set little 48 10) ≡ Err faults.FieldMissing
unfolding message_at framed_message
byte_48_10 = rw fields_unknown refl

one_less : message_at (take 63 little) ≡ Err faults.Short
unfolding message_at framed_message
one_less = refl

empty : message_at (take 0 little) ≡ Err faults.Short
unfolding message_at framed_message
empty = refl

one_after : message_at (little ++ 0 ∷ []) ≡ Err faults.Trailing
unfolding message_at framed_message
one_after = refl

-- ---- with a body

-- the same signal with the argument `hi`
abbrev greeting : Message
greeting = record {
  order = Little;
  kind = Signal;
  flags = 0;
  serial = 1;
  fields = path_field ∷ interface_field ∷ member_field ∷ record { code = 8; type = basic 103; value = text (115 ∷ []) } ∷ [];
  types = one_more (basic 115) no_types;
  arguments = one_value (text (104 ∷ 105 ∷ [])) no_values;
}

abbrev greeting_bytes : List ℕ
greeting_bytes = 108 ∷ 4 ∷ 0 ∷ 1 ∷ 7 ∷ 0 ∷ 0 ∷ 0 ∷ 1 ∷ 0 ∷ 0 ∷ 0 ∷ 55 ∷ 0 ∷ 0 ∷ 0 ∷ 1 ∷ 1 ∷ 111 ∷ 0 ∷ 2 ∷ 0 ∷ 0 ∷ 0 ∷ 47 ∷ 97 ∷ 0 ∷ 0 ∷ 0 ∷ 0 ∷ 0 ∷ 0 ∷ 2 ∷ 1 ∷ 115 ∷ 0 ∷ 3 ∷ 0 ∷ 0 ∷ 0 ∷ 97 ∷ 46 ∷ 98 ∷ 0 ∷ 0 ∷ 0 ∷ 0 ∷ 0 ∷ 3 ∷ 1 ∷ 115 ∷ 0 ∷ 1 ∷ 0 ∷ 0 ∷ 0 ∷ 99 ∷ 0 ∷ 0 ∷ 0 ∷ 0 ∷ 0 ∷ 0 ∷ 0 ∷ 8 ∷ 1 ∷ 103 ∷ 0 ∷ 1 ∷ 115 ∷ 0 ∷ 0 ∷ 2 ∷ 0 ∷ 0 ∷ 0 ∷ 104 ∷ 105 ∷ 0 ∷ []

greeting_spelled : message_bytes greeting ≡ greeting_bytes
greeting_spelled = refl

greeting_lies : arguments_of greeting ≡ record { code = 115; place = 76; len = 2; text = Some (104 ∷ 105 ∷ []) } ∷ []
greeting_lies = refl

hi : is_utf8 (104 ∷ 105 ∷ []) ≡ true
hi = is_utf8-from_IsUtf8 _ (IsUtf8-from_ascii _ (IsAscii-cons 104 (105 ∷ []) (omega arith) (IsAscii-cons 105 [] (omega arith) IsAscii-nil)))

hi_text : is_text_of 115 (104 ∷ 105 ∷ []) ≡ true
hi_text = rw hi refl

signature_is : IsField Little 58 (record { code = 8; type = basic 103; value = text (115 ∷ []) })
signature_is = record { code_above = omega arith; code_fits = omega arith; typed = tree_spelled (basic 103) (103 ∷ []) refl; shaped = (refl, omega arith); allowed = (refl, (refl, refl)) }

greeting_valid : Valid greeting_bytes greeting
greeting_valid = record {
  kind = refl;
  kind_fits = omega arith;
  flags = omega arith;
  serial = omega arith;
  serial_fits = omega arith;
  fields = (path_is Little, refl, (interface_is Little, refl, (member_is Little, refl, (signature_is, refl, tt))));
  required = refl;
  types = trees_spelled (one_more (basic 115) no_types) (115 ∷ []) refl;
  arguments = ((hi_text, omega arith), tt);
  fields_fit = omega arith;
  fits = omega arith;
  spelled = refl;
}

greeting_read : message_at greeting_bytes ≡ Ok greeting
greeting_read = valid_reads greeting_bytes greeting greeting_valid

-- ---- the fixed part

frames : framing (108 ∷ 4 ∷ 0 ∷ 1 ∷ 192 ∷ 255 ∷ 255 ∷ 7 ∷ 1 ∷ 0 ∷ 0 ∷ 0 ∷ 42 ∷ 0 ∷ 0 ∷ 0 ∷ []) ≡ Ok (Some 134217728)
frames = refl

too_large : framing (108 ∷ 4 ∷ 0 ∷ 1 ∷ 0 ∷ 0 ∷ 0 ∷ 8 ∷ 1 ∷ 0 ∷ 0 ∷ 0 ∷ 42 ∷ 0 ∷ 0 ∷ 0 ∷ []) ≡ Err faults.TooLarge
too_large = refl

frames_none : framing (take 15 little) ≡ Ok None
frames_none = refl
