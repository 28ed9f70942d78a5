-- What the pieces test that look at one word of the summary.
use Rattle.std.proofs.Common.{◌≡◌, ℕ, ◌+◌, ◌/◌, ◌%◌, ◌^◌, ◌<◌, Bool, true, false, not, cond, List, [], ◌∷◌, length, eqb, Option, Some, None, inl, inr, refl, sym, ap, ◌∙◌, arith, subst, slice_index}
use Rattle.std.specs.Prelude.{IsSomeAnd, is_some, min, unwrap_or}
use Rattle.std.specs.Int.{bit_at}
use Rattle.std.proofs.lemmas.Bool.{false≢true, cases_Bool, eqb-true, eqb-false, eq-eqb, ltb-true, lt-ltb}
use Rattle.std.proofs.lemmas.Nat.{pow_pos}
use Rattle.std.proofs.lemmas.Nat.Bits.{and_pow, bit_at-lt}
use Rattle.std.proofs.lemmas.Option.{same_Some}
use Rattle.bpf_code.specs.declared.operation.Test.TheVariants.{Equal, Above, SharesBit}
use Rattle.bpf_code.specs.Effects.{passes}
use Rattle.bpf_code.specs.Loads.{load_word}
use Rattle.message_value.specs.Arguments.{Argument}
use Rattle.message_value.specs.declared.order.Order.{Order}
use Rattle.message_value.specs.Value.{Value, number}
use Rattle.message_view.specs.declared.kind.Kind as kinds
use Rattle.message_view.specs.Header.{kind_byte, kind_of, code_of}
use Rattle.message_view.specs.Message.{Field, Message, field_with, number_in, reply_serial_of}
use Rattle.message_view.specs.Spelling.{fixed_len, field_bytes}
use Rattle.message_view.specs.Valid.{Valid, IsAllowed, AreFields}
use Rattle.match_key.specs.declared.kind_name.KindName.{KindName}
use Rattle.match_key.specs.Kinds.{kind_meant}
use Rattle.summary.specs.declared.edition.Edition.TheVariants.{Two}
use Rattle.summary.specs.Layout.{kind_place, count_place, argument_place, ownership_place, reply_serial_place}
use Rattle.summary.specs.Sets.{has_slot}
use Rattle.summary.specs.Shown.{ShowsText, ShowsArgument}
use Rattle.rule_compile.proofs.Conditions.{kind_back, bit_shared}
use Rattle.filter.specs.declared.test.ArgType.{ArgType}
use Rattle.filter.specs.declared.test.ArgType.TheVariants as types
use Rattle.filter.specs.declared.test.Equality.{Equality}
use Rattle.filter.specs.declared.test.Equality.TheVariants as equalities
use Rattle.filter_compile.specs.Holds.{Says, type_code}
use Rattle.filter_compile.specs.Pieces.{Piece, word_test}
use Rattle.filter_compile.specs.TestCode.{says, has_type, owns}
use Rattle.filter_compile.proofs.TwoExits.{Extends, extends_no, Tests, tests_same, tests_no, tests_word}

-- ---- so or not so

pub tests_says : (image : List ℕ) (X : ℕ → Type 0) (equality : Equality) (P : Type 0) (f : Piece) → Tests image X P f → Tests image X (Says equality P) (says equality f)
tests_says image X equalities.Equal P f t = t
tests_says image X equalities.Unequal P f t = tests_no image X P f t

pub extends_says : (equality : Equality) (f : Piece) → Extends f → Extends (says equality f)
extends_says equalities.Equal f extends = extends
extends_says equalities.Unequal f extends = extends_no f extends

-- ---- the kind

pub tests_kind : (image : List ℕ) (X : ℕ → Type 0) (kind : kinds.Kind) (name : KindName) → load_word image kind_place ≡ Some (kind_byte kind) → kind_of (kind_byte kind) ≡ Some kind → Tests image X (kind ≡ kind_meant name) (word_test kind_place Equal (kind_byte (kind_meant name)))
tests_kind image X kind name is known =
    tests_same image X _ _ (word_test kind_place Equal (kind_byte (kind_meant name))) (
      λ e. same_Some kind (kind_meant name) (sym known ∙ ap kind_of (eqb-true (kind_byte kind) (kind_byte (kind_meant name)) e) ∙ kind_back name),
      λ same. eq-eqb (kind_byte kind) (kind_byte (kind_meant name)) (ap kind_byte same),
    ) (tests_word image X kind_place (kind_byte kind) Equal (kind_byte (kind_meant name)) is)

-- ---- fields

pub tests_there : (image : List ℕ) (X : ℕ → Type 0) (at : ℕ) (shown : Option (List ℕ)) → ShowsText image at shown → Tests image X (is_some shown ≡ true) (word_test at Above 0)
tests_there image X at None shows =
    tests_same image X _ _ (word_test at Above 0) (λ e. e, λ e. e) (tests_word image X at 0 Above 0 shows.0)
tests_there image X at (Some text) tells =
    tests_same image X _ _ (word_test at Above 0) (λ _. refl, λ _. lt-ltb 0 tells.place tells.after_start) (tests_word image X at tells.place Above 0 tells.place_word)

pub tests_absent : (image : List ℕ) (X : ℕ → Type 0) (at : ℕ) (shown : Option (List ℕ)) → ShowsText image at shown → Tests image X (shown ≡ None) (word_test at Equal 0)
tests_absent image X at None shows =
    tests_same image X _ _ (word_test at Equal 0) (λ _. refl, λ _. refl) (tests_word image X at 0 Equal 0 shows.0)
tests_absent image X at (Some text) tells =
    tests_same image X _ _ (word_test at Equal 0) (
      λ e. absurd (let z = eqb-true tells.place 0 e in let start = tells.after_start in omega arith),
      λ e. absurd cc,
    ) (tests_word image X at tells.place Equal 0 tells.place_word)

-- a reply answers no serial 0
serial_above : (order : Order) (place : ℕ) (fields : List Field) (n : ℕ) → AreFields order place fields → number_in (field_with 5 fields) ≡ Some n → 0 < n
serial_above order place [] n are is = absurd cc
serial_above order place (field ∷ fields) n are is =
    go (eqb field.code 5) refl (λ later. serial_above order (place + length (field_bytes order place field)) fields n are.2 later) is
  where
    -- what a field of this code may hold
    content : (v : Value) → IsAllowed (code_of 5) (record { code = field.code; type = field.type; value = v }) → number_in (Some v) ≡ Some n → 0 < n
    content (number bits) has e =
        let same : bits ≡ n = same_Some bits n e in
        elim (cases_Bool (eqb bits 0)) [
          | inl none ↦ absurd (false≢true (sym (ap not none) ∙ has.1))
          | inr some ↦ (let h = eqb-false bits 0 some in omega arith)
        ]
    content _ has e = absurd cc

    go : (b : Bool) → eqb field.code 5 ≡ b → (number_in (field_with 5 fields) ≡ Some n → 0 < n) → number_in (cond b (Some field.value) (field_with 5 fields)) ≡ Some n → 0 < n
    go true e rest found =
        let allowed : IsAllowed (code_of 5) field = subst (λ (code : ℕ). IsAllowed (code_of code) field) (eqb-true field.code 5 e) are.0.allowed in
        content field.value allowed found
    go false e rest found = rest found

pub reply_serial_above : (bytes : List ℕ) (m : Message) (n : ℕ) → Valid bytes m → reply_serial_of m ≡ Some n → 0 < n
reply_serial_above bytes m n valid is = serial_above m.order fixed_len m.fields n valid.fields is

pub tests_reply_serial : (image : List ℕ) (X : ℕ → Type 0) (o : Option ℕ) → load_word image reply_serial_place ≡ Some (unwrap_or o 0) → ((n : ℕ) → o ≡ Some n → 0 < n) → Tests image X (is_some o ≡ true) (word_test reply_serial_place Above 0)
tests_reply_serial image X None is above =
    tests_same image X _ _ (word_test reply_serial_place Above 0) (λ e. e, λ e. e) (tests_word image X reply_serial_place 0 Above 0 is)
tests_reply_serial image X (Some n) is above =
    tests_same image X _ _ (word_test reply_serial_place Above 0) (λ _. refl, λ _. lt-ltb 0 n (above n refl)) (tests_word image X reply_serial_place n Above 0 is)

-- ---- arguments

pub tests_count : (image : List ℕ) (X : ℕ → Type 0) (count n : ℕ) → load_word image count_place ≡ Some (min count 64) → n < 64 → Tests image X (n < count) (word_test count_place Above n)
tests_count image X count n is small =
    tests_same image X _ _ (word_test count_place Above n) (
      λ e. let h = ltb-true n (min count 64) e in omega arith,
      λ less. lt-ltb n (min count 64) (omega arith),
    ) (tests_word image X count_place (min count 64) Above n is)

pub type_above : (type : ArgType) → 0 < type_code type
type_above types.Byte = omega arith
type_above _ = omega arith

pub tests_type : (image : List ℕ) (X : ℕ → Type 0) (n code : ℕ) (o : Option Argument) → ShowsArgument Two image (argument_place n) o → 0 < code → Tests image X (IsSomeAnd o (λ a. a.code ≡ code)) (has_type n code)
tests_type image X n code None shows above =
    tests_same image X _ _ (has_type n code) (λ e. absurd (let h = eqb-true 0 code e in omega arith), λ none. absurd none) (tests_word image X (argument_place n) 0 Equal code shows.0)
tests_type image X n code (Some a) shows above =
    tests_same image X _ _ (has_type n code) (eqb-true a.code code, eq-eqb a.code code) (tests_word image X (argument_place n) a.code Equal code shows.code_word)

-- ---- who owns a name

pub tests_owns : (image : List ℕ) (X : ℕ → Type 0) (slots : List ℕ) (slot : ℕ) (owned : Bool) → load_word image (ownership_place slot) ≡ Some (slice_index slots (slot / 32)) → owned ≡ has_slot slots slot → Tests image X (owned ≡ true) (owns slot)
tests_owns image X slots slot owned is agrees =
    let word : ℕ = slice_index slots (slot / 32) in
    let shares : passes SharesBit word (2 ^ (slot % 32)) ≡ owned = ap (λ (n : ℕ). not (eqb n 0)) (and_pow word (slot % 32)) ∙ bit_shared (bit_at word (slot % 32)) (2 ^ (slot % 32)) (bit_at-lt word (slot % 32)) (pow_pos (slot % 32)) ∙ sym agrees in
    tests_same image X _ _ (owns slot) (λ e. sym shares ∙ e, λ e. shares ∙ e) (tests_word image X (ownership_place slot) word SharesBit (2 ^ (slot % 32)) is)
