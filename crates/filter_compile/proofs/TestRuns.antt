-- What the piece of each test does: it tests whether the test holds.
use Rattle.std.proofs.Common.{◌≡◌, ℕ, ◌+◌, ◌^◌, ◌<◌, ◌≤◌, Bool, true, false, List, ◌∷◌, length, Option, Some, None, inl, inr, refl, ap, arith, subst, slice_get}
use Rattle.std.specs.Prelude.{IsSomeAnd, IfSome, is_some, min, unwrap_or, option_map, if◌then◌else◌}
use Rattle.std.proofs.lemmas.Bool.{false≢true, cases_Bool}
use Rattle.bpf_code.specs.declared.operation.Arithmetic.TheVariants.{Sub}
use Rattle.bpf_code.specs.declared.operation.Op.TheVariants.{Compute, LoadLength}
use Rattle.bpf_code.specs.declared.operation.Operand.TheVariants.{Constant}
use Rattle.message_view.proofs.FieldsHeld.{reply_serial_below}
use Rattle.message_view.proofs.PartPlaces.{length-laid}
use Rattle.message_view.specs.Header.{kind_byte}
use Rattle.match_key.specs.Kinds.{kind_meant}
use Rattle.rule_compile.specs.Code.{plain, image_word}
use Rattle.rule_compile.proofs.Runs.{runs_image_word}
use Rattle.rule_compile.proofs.TextArguments.{argument_has_text, path_has_text}
use Rattle.filter_compile.specs.EachTest.{HasBytes}
use Rattle.filter_compile.proofs.ArgNumbers.{extends_arg_number, tests_arg_number}
use Rattle.filter_compile.proofs.Runs.{runs_length, runs_sub}
use Rattle.filter_compile.proofs.HeaderNumbers.{Loads, extends_word_number, extends_message_len, tests_number}
use Rattle.filter_compile.proofs.NamesOf.{AsksIn}
use Rattle.filter_compile.proofs.ArgumentValues.{Laid, arguments_lie}
use Rattle.filter_compile.proofs.TypeIntegers.{not_true}
use Rattle.filter_compile.proofs.Truths.{extends_truth, tests_truth}
use Rattle.filter_compile.proofs.NestedPaths.{tests_path_argument, extends_is_nested, tests_is_nested}
use Rattle.signature.specs.DataType.{DataType}
use Rattle.message_value.specs.Value.{Value}
use Rattle.message_value.specs.Spelling.{bare_bytes}
use Rattle.bpf_code.specs.declared.operation.Test.TheVariants.{Equal, Above, SharesBit}
use Rattle.bpf_code.specs.Loads.{load_word}
use Rattle.message_value.specs.Arguments.{Argument}
use Rattle.message_value.specs.Bytes.{AreBytes}
use Rattle.message_value.specs.Fits.{is_text_code, max_levels}
use Rattle.message_view.specs.Message.{Message, path_of, sender_of, destination_of, reply_serial_of}
use Rattle.message_view.specs.Spelling.{header_bytes, body_bytes, arguments_of, message_bytes}
use Rattle.message_view.specs.Valid.{Valid}
use Rattle.match_key.proofs.ArgNumbers.{number_small}
use Rattle.match_key.specs.ArgNumber.{number_of_arg}
use Rattle.match_rule.specs.Arguments.{text_in}
use Rattle.summary.specs.declared.edition.Edition.TheVariants.{Two}
use Rattle.summary.specs.Layout.{flags_place, count_place, text_place, argument_place, serial_place, reply_serial_place}
use Rattle.summary.specs.Sets.{has_slot}
use Rattle.summary.specs.Shown.{Lies, Shows, ShowsText}
use Rattle.rule_compile.proofs.Pieces.{Any}
use Rattle.filter.specs.Weights.{asks_owner}
use Rattle.filter.specs.declared.test.Equality.{Equality}
use Rattle.filter.specs.declared.test.Field.{Field}
use Rattle.filter.specs.declared.test.Field.TheVariants as fields
use Rattle.filter.specs.declared.integer.Integer.{Integer}
use Rattle.filter.specs.declared.test.NumberRelation.{NumberRelation}
use Rattle.filter.specs.declared.test.NumberSource.{NumberSource}
use Rattle.filter.specs.declared.test.NumberSource.TheVariants as sources_of
use Rattle.filter.specs.declared.test.Scope.{Scope}
use Rattle.filter.specs.declared.test.Scope.TheVariants.{PathNamespace, ArgNamespace, ArgPath}
use Rattle.filter.specs.declared.test.Test.{Test}
use Rattle.filter.specs.declared.test.Test.TheVariants as tests
use Rattle.filter.specs.declared.test.TextField.{TextField}
use Rattle.filter.specs.declared.test.TextField.TheVariants as text_fields
use Rattle.filter.specs.declared.test.TextRelation.{TextRelation}
use Rattle.filter.specs.declared.test.TextRelation.TheVariants as relations
use Rattle.filter.specs.declared.test.TextSource.{TextSource}
use Rattle.filter.specs.declared.test.TextSource.TheVariants as sources
use Rattle.filter.specs.declared.test.TextType.{TextType}
use Rattle.filter.specs.declared.test.TextType.TheVariants as text_types
use Rattle.filter_compile.specs.Holds.{Says, field_text, has_field, flag_bit, type_code, text_code, natural, value_at, integer_at, NumberRelates, text_at, TextRelates, OwnerRelates, TextHolds, scope_text, IsWithin, TestHolds}
use Rattle.filter_compile.specs.Names.{has_name, slot_in}
use Rattle.filter_compile.specs.Pieces.{Piece, no, both, is_there, word_test}
use Rattle.filter_compile.specs.PieceOfTest.{number_code, test_code}
use Rattle.filter_compile.specs.TestCode.{view_field, field_place, words_at, has_text, text_relates, owns, owner_code, text_code_of, says, scope_relates, scope_words, has_scope, scope_code, word_number, reply_serial}
use Rattle.filter_compile.proofs.TwoExits.{Extends, extends_no, extends_both, extends_choice, extends_either, extends_word, Tests, tests_same, tests_no, tests_then, tests_both, tests_word}
use Rattle.filter_compile.proofs.Fields.{tests_says, extends_says, tests_kind, tests_there, tests_absent, reply_serial_above, tests_reply_serial, tests_count, type_above, tests_type, tests_owns}
use Rattle.filter_compile.proofs.SourceTexts.{extends_relates, tests_relates, tests_field, tests_argument}
use Rattle.filter_compile.proofs.Scopes.{extends_in_namespace, tests_in_namespace, extends_path_within, tests_path_within, same_name_text}

-- the owned names have a filter's names exactly where their slots are among the slots
pub record Slots (names : List (List ℕ)) (owned : List ℕ → Bool) (slots : List ℕ) : Type 0 where
  pub agree : (name : List ℕ) → has_name names name ≡ true → owned name ≡ has_slot slots (slot_in names name)
  pub small : (name : List ℕ) → has_name names name ≡ true → slot_in names name < 1024

module _ (image bytes : List ℕ) (m : Message) (slots : List ℕ) (owned : List ℕ → Bool) (names : List (List ℕ)) (valid : Valid bytes m) (shows : Shows Two image m slots) (len : length image ≡ 976 + length (message_bytes m)) (lies : (o : Option Argument) (v : Option (DataType × Value)) (laid : Laid m.order max_levels (message_bytes m) o v) → Lies image (976 + laid.start) (bare_bytes m.order laid.start laid.type laid.value)) (named : Slots names owned slots) where
  shows_field : (field : TextField) → ShowsText image (text_place (view_field field)) (field_text field m)
  shows_field text_fields.Path = shows.path
  shows_field text_fields.Interface = shows.interface
  shows_field text_fields.Member = shows.member
  shows_field text_fields.ErrorName = shows.error_name
  shows_field text_fields.Destination = shows.destination
  shows_field text_fields.Sender = shows.sender

  pub tests_has_field : (field : Field) → Tests image Any (has_field field m ≡ true) (word_test (field_place field) Above 0)
  tests_has_field fields.Path = tests_there image Any 24 _ shows.path
  tests_has_field fields.Interface = tests_there image Any 32 _ shows.interface
  tests_has_field fields.Member = tests_there image Any 40 _ shows.member
  tests_has_field fields.ErrorName = tests_there image Any 48 _ shows.error_name
  tests_has_field fields.ReplySerial = tests_reply_serial image Any (reply_serial_of m) shows.serials.1 (λ n is. reply_serial_above bytes m n valid is)
  tests_has_field fields.Destination = tests_there image Any 56 _ shows.destination
  tests_has_field fields.Sender = tests_there image Any 64 _ shows.sender

  -- ---- texts

  text_code_above : (type : TextType) → 0 < text_code type
  text_code_above text_types.String = omega arith
  text_code_above _ = omega arith

  tests_source : (source : TextSource) (relation : TextRelation) (value : List ℕ) → AreBytes value → Tests image Any (IsSomeAnd (text_at source m) (λ text. TextRelates relation text value)) (both (has_text source) (text_relates relation value (words_at source)))
  tests_source (sources.Field field) relation value are =
      let at = text_place (view_field field) in
      tests_field image at (field_text field m) (λ text. TextRelates relation text value) (text_relates relation value at) (shows_field field) (extends_relates relation value at) (λ text tells. tests_relates relation image at text value tells are)
  tests_source (sources.Arg n type) relation value are =
      let k : ℕ = number_of_arg n in
      let at = argument_place k + 4 in
      tests_argument image k (text_code type) (slice_get (arguments_of m) k) (λ text. TextRelates relation text value) (text_relates relation value at) (shows.argument k (let l = number_small n in omega arith)) (text_code_above type) (λ a is code. argument_has_text bytes m k a valid is (is_text type a code)) (extends_relates relation value at) (λ text tells. tests_relates relation image at text value tells are)
    where
      is_text : (type : TextType) (a : Argument) → a.code ≡ text_code type → is_text_code a.code ≡ true
      is_text text_types.String a e = rw e refl
      is_text text_types.ObjectPath a e = rw e refl
      is_text text_types.Signature a e = rw e refl

  tests_owner : (relation : TextRelation) (name : List ℕ) → has_name names name ≡ true → Tests image Any (OwnerRelates relation (owned name) m) (owner_code relation (slot_in names name))
  tests_owner relations.Unequal name is =
      let slot = slot_in names name in
      let t = tests_owns image Any slots slot (owned name) (shows.owned slot (named.small name is)) (named.agree name is) in
      let other = tests_same image Any _ (owned name ≡ false) (no (owns slot)) (not_true (owned name)) (tests_no image Any (owned name ≡ true) (owns slot) t) in
      tests_both image Any (is_some (sender_of m) ≡ true) (owned name ≡ false) (is_there 64) (no (owns slot)) (tests_there image Any 64 (sender_of m) shows.sender) (extends_no (owns slot) (extends_word _ SharesBit _)) other
  tests_owner _ name is =
      let slot = slot_in names name in
      tests_owns image Any slots slot (owned name) (shows.owned slot (named.small name is)) (named.agree name is)

  pub tests_text : (source : TextSource) (relation : TextRelation) (value : List ℕ) → AreBytes value → (asks_owner source relation value ≡ true → has_name names value ≡ true) → Tests image Any (TextHolds source relation value m owned) (text_code_of names source relation value)
  tests_text source relation value are asked = elim (cases_Bool (asks_owner source relation value)) [
    | inl asks ↦ rw asks (tests_owner relation value (asked asks))
    | inr other ↦ rw other (tests_source source relation value are)
  ]

  -- ---- scopes

  pub tests_scope : (scope : Scope) (equality : Equality) (value : List ℕ) → AreBytes value → Tests image Any (IsSomeAnd (scope_text scope m) (λ text. Says equality (IsWithin scope text value))) (scope_code scope equality value)
  tests_scope PathNamespace equality value are =
      let f : Piece = scope_relates PathNamespace value 24 in
      tests_field image 24 (path_of m) (λ text. Says equality (IsWithin PathNamespace text value)) (says equality f) shows.path (extends_says equality f (extends_path_within value 24)) (λ text tells. tests_says image Any equality (IsWithin PathNamespace text value) f (tests_path_within image 24 text value tells are))
  tests_scope (ArgNamespace n) equality value are =
      let k : ℕ = number_of_arg n in
      let at = argument_place k + 4 in
      let f : Piece = scope_relates (ArgNamespace n) value at in
      let Q : List ℕ → Type 0 = λ text. Says equality (IsWithin (ArgNamespace n) text value) in
      let o = slice_get (arguments_of m) k in
      subst (λ (shown : Option (List ℕ)). Tests image Any (IsSomeAnd shown Q) (scope_code (ArgNamespace n) equality value)) (same_name_text (text_in o))
      (tests_argument image k 115 o Q (says equality f) (shows.argument k (let l = number_small n in omega arith)) (omega arith) (λ a is code. argument_has_text bytes m k a valid is (rw code refl)) (extends_says equality f (extends_in_namespace 46 value at)) (λ text tells. tests_says image Any equality (IsWithin (ArgNamespace n) text value) f (tests_in_namespace image at 46 text value tells are)))
  tests_scope (ArgPath n) equality value are =
      let k : ℕ = number_of_arg n in
      let at = argument_place k + 4 in
      let f : Piece = scope_relates (ArgPath n) value at in
      let Q : List ℕ → Type 0 = λ text. Says equality (IsWithin (ArgPath n) text value) in
      let o = slice_get (arguments_of m) k in
      tests_path_argument image k o Q (says equality f) (shows.argument k (let l = number_small n in omega arith)) (λ a is text. path_has_text bytes m k a valid is text) (extends_says equality f (extends_is_nested value at)) (λ text tells. tests_says image Any equality (IsWithin (ArgPath n) text value) f (tests_is_nested image at text value tells are))

  -- ---- numbers

  word_loads : (at n : ℕ) → load_word image at ≡ Some n → Loads image n (λ rest. image_word at ∷ rest)
  word_loads at n is rest v run a x any = runs_image_word rest image at n a x v is (run x any)

  -- what a valid message's numbers are below
  len_below : length (message_bytes m) ≤ 134217728
  len_below = omega (arith, ap (λ (bytes : List ℕ). length bytes) valid.spelled, valid.fits)

  body_below : length (body_bytes m) < 2 ^ 32
  body_below = omega (arith, len_below, length-laid m.order (kind_byte m.kind) m.flags m.serial (header_bytes m) (body_bytes m))

  answered : (o : Option ℕ) → load_word image reply_serial_place ≡ Some (unwrap_or o 0) → ((n : ℕ) → o ≡ Some n → 0 < n) → unwrap_or o 0 < 2 ^ 32 → (relation : NumberRelation) (value : Integer) → Tests image Any (IsSomeAnd (option_map natural o) (λ found. NumberRelates relation found value)) (reply_serial relation value)
  answered None is above below relation value =
      let compared = word_number reply_serial_place relation value in
      tests_same image Any ((false ≡ true) × ⊥) ⊥ (both (is_there reply_serial_place) compared) (λ each. each.1, λ none. absurd none) (tests_then image Any _ ⊥ (is_there reply_serial_place) compared (tests_reply_serial image Any None is above) (extends_word_number reply_serial_place relation value) (λ e. absurd (false≢true e)))
  answered (Some n) is above below relation value =
      let compared = word_number reply_serial_place relation value in
      tests_same image Any ((is_some (Some n) ≡ true) × NumberRelates relation (natural n) value) (NumberRelates relation (natural n) value) (both (is_there reply_serial_place) compared) (λ each. each.1, λ q. (refl, q)) (tests_then image Any _ (NumberRelates relation (natural n) value) (is_there reply_serial_place) compared (tests_reply_serial image Any (Some n) is above) (extends_word_number reply_serial_place relation value) (λ _. tests_number image n (λ rest. image_word reply_serial_place ∷ rest) below (word_loads reply_serial_place n is) relation value))

  length_loads : Loads image (length (message_bytes m)) (λ rest. plain LoadLength 0 ∷ plain (Compute Sub Constant) 976 ∷ rest)
  length_loads rest v run a x any =
      runs_length (plain (Compute Sub Constant) 976 ∷ rest) image a x v (runs_sub rest image 976 (length (message_bytes m)) (length image) x v (omega arith) (omega (arith, len, len_below)) (omega (arith, len)) (run x any))

  tests_number_at : (source : NumberSource) (relation : NumberRelation) (value : Integer) → Tests image Any (IsSomeAnd (integer_at source m) (λ found. NumberRelates relation found value)) (number_code source relation value)
  tests_number_at sources_of.Serial relation value =
      tests_number image m.serial (λ rest. image_word serial_place ∷ rest) valid.serial_fits (word_loads serial_place m.serial shows.serials.0) relation value
  tests_number_at sources_of.ReplySerial relation value =
      answered (reply_serial_of m) shows.serials.1 (λ n e. reply_serial_above bytes m n valid e) (reply_serial_below bytes m valid) relation value
  tests_number_at sources_of.Flags relation value =
      tests_number image m.flags (λ rest. image_word flags_place ∷ rest) (omega (arith, valid.flags)) (word_loads flags_place m.flags shows.head.flags) relation value
  tests_number_at sources_of.BodyLength relation value =
      tests_number image (length (body_bytes m)) (λ rest. image_word 16 ∷ rest) body_below (word_loads 16 (length (body_bytes m)) shows.head.body_len) relation value
  tests_number_at sources_of.Args relation value =
      let n : ℕ = min (length (arguments_of m)) 64 in
      tests_number image n (λ rest. image_word count_place ∷ rest) (omega arith) (word_loads count_place n shows.head.count) relation value
  tests_number_at sources_of.Length relation value =
      tests_number image (length (message_bytes m)) (λ rest. plain LoadLength 0 ∷ plain (Compute Sub Constant) 976 ∷ rest) (omega (arith, len_below)) length_loads relation value
  tests_number_at (sources_of.Arg n) relation value =
      let k : ℕ = number_of_arg n in
      tests_arg_number image (message_bytes m) m.order max_levels k (slice_get (arguments_of m) k) (value_at k m.types m.arguments) relation value shows.head.order (shows.argument k (let l = number_small n in omega arith)) (arguments_lie bytes m k valid) (λ laid. lies (slice_get (arguments_of m) k) (value_at k m.types m.arguments) laid)

  -- ---- each test

  -- its text is of bytes, and the name that it asks for is among the names
  abbrev pub Fits : Test → Type 0
  Fits t = HasBytes t × AsksIn names t

  asked_of : (b : Bool) (value : List ℕ) → IfSome (if b then Some value else None) (λ name. has_name names name ≡ true) → b ≡ true → has_name names value ≡ true
  asked_of true value is e = is
  asked_of false value is e = absurd (false≢true e)

  pub test_runs : (t : Test) → Fits t → Tests image Any (TestHolds t m owned) (test_code names t)
  test_runs (tests.Kind equality kind) fits = tests_says image Any equality (m.kind ≡ kind_meant kind) _ (tests_kind image Any m.kind kind shows.kind valid.kind)
  test_runs tests.Broadcast fits = tests_absent image Any 56 (destination_of m) shows.destination
  test_runs (tests.Flag flag) fits = tests_word image Any flags_place m.flags SharesBit (flag_bit flag) shows.head.flags
  test_runs (tests.HasField field) fits = tests_has_field field
  test_runs (tests.HasArg n) fits = tests_count image Any (length (arguments_of m)) (number_of_arg n) shows.head.count (let l = number_small n in omega arith)
  test_runs (tests.IsType n type) fits =
      let k : ℕ = number_of_arg n in
      tests_type image Any k (type_code type) (slice_get (arguments_of m) k) (shows.argument k (let l = number_small n in omega arith)) (type_above type)
  test_runs (tests.Truth n equality truth) fits =
      let k : ℕ = number_of_arg n in
      tests_truth image (message_bytes m) m.order max_levels k (slice_get (arguments_of m) k) (value_at k m.types m.arguments) equality truth (shows.argument k (let l = number_small n in omega arith)) (arguments_lie bytes m k valid) (λ laid. lies (slice_get (arguments_of m) k) (value_at k m.types m.arguments) laid)
  test_runs (tests.Text source relation value) fits = tests_text source relation value fits.0 (asked_of (asks_owner source relation value) value fits.1)
  test_runs (tests.Within scope equality value) fits = tests_scope scope equality value fits.0
  test_runs (tests.Number source relation value) fits = tests_number_at source relation value

-- ---- pieces stand in front of their rest

extends_has_text : (source : TextSource) → Extends (has_text source)
extends_has_text (sources.Field field) = extends_word _ Above 0
extends_has_text (sources.Arg n type) = extends_word _ Equal _

extends_owner : (relation : TextRelation) (slot : ℕ) → Extends (owner_code relation slot)
extends_owner relations.Unequal slot =
    extends_both (is_there 64) (no (owns slot)) (extends_word 64 Above 0) (extends_no (owns slot) (extends_word _ SharesBit _))
extends_owner _ slot = extends_word _ SharesBit _

extends_text : (names : List (List ℕ)) (source : TextSource) (relation : TextRelation) (value : List ℕ) → Extends (text_code_of names source relation value)
extends_text names source relation value =
    extends_choice (asks_owner source relation value) (owner_code relation (slot_in names value)) (both (has_text source) (text_relates relation value (words_at source))) (extends_owner relation (slot_in names value)) (extends_both (has_text source) (text_relates relation value (words_at source)) (extends_has_text source) (extends_relates relation value (words_at source)))

extends_has_scope : (scope : Scope) → Extends (has_scope scope)
extends_has_scope PathNamespace = extends_word 24 Above 0
extends_has_scope (ArgNamespace n) = extends_word _ Equal 115
extends_has_scope (ArgPath n) = extends_either _ _ (extends_word _ Equal 115) (extends_word _ Equal 111)

extends_scope_relates : (scope : Scope) (value : List ℕ) (at : ℕ) → Extends (scope_relates scope value at)
extends_scope_relates PathNamespace value at = extends_path_within value at
extends_scope_relates (ArgNamespace n) value at = extends_in_namespace 46 value at
extends_scope_relates (ArgPath n) value at = extends_is_nested value at

extends_number : (source : NumberSource) (relation : NumberRelation) (value : Integer) → Extends (number_code source relation value)
extends_number sources_of.Serial relation value = extends_word_number serial_place relation value
extends_number sources_of.ReplySerial relation value =
    extends_both (is_there reply_serial_place) (word_number reply_serial_place relation value) (extends_word reply_serial_place Above 0) (extends_word_number reply_serial_place relation value)
extends_number sources_of.Flags relation value = extends_word_number flags_place relation value
extends_number sources_of.BodyLength relation value = extends_word_number 16 relation value
extends_number sources_of.Args relation value = extends_word_number count_place relation value
extends_number sources_of.Length relation value = extends_message_len relation value
extends_number (sources_of.Arg n) relation value = extends_arg_number (number_of_arg n) relation value

pub extends_piece : (names : List (List ℕ)) (t : Test) → Extends (test_code names t)
extends_piece names (tests.Kind equality kind) = extends_says equality _ (extends_word _ Equal _)
extends_piece names tests.Broadcast = extends_word 56 Equal 0
extends_piece names (tests.Flag flag) = extends_word flags_place SharesBit (flag_bit flag)
extends_piece names (tests.HasField field) = extends_word (field_place field) Above 0
extends_piece names (tests.HasArg n) = extends_word count_place Above (number_of_arg n)
extends_piece names (tests.IsType n type) = extends_word _ Equal (type_code type)
extends_piece names (tests.Truth n equality truth) = extends_truth (number_of_arg n) equality truth
extends_piece names (tests.Text source relation value) = extends_text names source relation value
extends_piece names (tests.Within scope equality value) =
    let f : Piece = scope_relates scope value (scope_words scope) in
    extends_both (has_scope scope) (says equality f) (extends_has_scope scope) (extends_says equality f (extends_scope_relates scope value (scope_words scope)))
extends_piece names (tests.Number source relation value) = extends_number source relation value
