-- What the code of a condition does: it tests whether the condition holds.
use Rattle.std.proofs.Common.{◌≡◌, ℕ, zero, suc, ◌+◌, ◌*◌, ◌/◌, ◌%◌, ◌^◌, ◌<◌, Bool, true, false, not, List, [], ◌∷◌, ◌++◌, length, eqb, Option, Some, None, ◌⊎◌, ◌↔◌, inl, inr, refl, sym, ap, ◌∙◌, arith, subst, slice_get, slice_index, MatchBool, if◌then◌else◌, bytes_eq}
use Rattle.std.specs.Prelude.{IsSomeAnd}
use Rattle.std.specs.Int.{bit_at}
use Rattle.std.proofs.lemmas.Bool.{false≢true, eqb-true, eq-eqb, ne_eqb}
use Rattle.std.proofs.lemmas.Nat.{pow_pos}
use Rattle.std.proofs.lemmas.Nat.Bits.{and_pow, bit_at-lt}
use Rattle.std.proofs.lemmas.Slice.Eq.{bytes_eq-Decides}
use Rattle.std.proofs.lemmas.Option.{same_Some}
use Rattle.bpf_code.specs.declared.operation.Test.TheVariants.{Equal, Above, AtLeast, SharesBit}
use Rattle.bpf_code.specs.declared.instruction.Ins.{Ins}
use Rattle.bpf_code.specs.Loads.{load_word}
use Rattle.bpf_code.specs.Effects.{passes}
use Rattle.message_view.specs.declared.extent.TextField.TheVariants as texts
use Rattle.message_view.specs.declared.kind.Kind as kinds
use Rattle.message_view.specs.Header.{kind_byte, kind_of}
use Rattle.message_view.specs.Message.{Message, sender_of}
use Rattle.message_view.specs.Spelling.{arguments_of}
use Rattle.message_view.specs.Valid.{Valid}
use Rattle.match_key.specs.declared.kind_name.KindName.{KindName}
use Rattle.match_key.specs.declared.kind_name.KindName.TheVariants.{Signal}
use Rattle.match_key.specs.declared.source.Field.{Field}
use Rattle.match_key.specs.declared.source.Field.TheVariants.{Interface, Member, Path, Destination}
use Rattle.match_key.specs.declared.source.Source.TheVariants.{Header, Arg}
use Rattle.match_key.specs.declared.relation.Relation.{Relation}
use Rattle.match_key.specs.declared.relation.Relation.TheVariants as relations
use Rattle.match_rule.specs.declared.condition.Condition.{Condition}
use Rattle.match_rule.specs.declared.condition.Condition.TheVariants.{Kind, Sender, Compares}
use Rattle.match_key.specs.Kinds.{kind_meant}
use Rattle.match_rule.specs.Condition.{value_of}
use Rattle.match_rule.specs.Holds.{Begins, InPathNamespace, InNamespace, AreNested, Relates, field_of, ConditionHolds}
use Rattle.match_key.specs.ArgNumber.{number_of_arg}
use Rattle.match_key.proofs.ArgNumbers.{number_small}
use Rattle.match_rule.specs.RuleTree.{is_owned_name}
use Rattle.summary.specs.declared.edition.Edition.TheVariants.{Two}
use Rattle.summary.specs.Sets.{has_slot}
use Rattle.summary.specs.Shown.{Tells, ShowsText, Shows}
use Rattle.message_value.specs.Bytes.{AreBytes}
use Rattle.summary.specs.Layout.{kind_place, text_place, argument_place, ownership_place}
use Rattle.rule_compile.specs.Code.{image_word, want, is_there, has_text_len, has_bytes, in_namespace}
use Rattle.rule_compile.specs.Folders.{is_nested}
use Rattle.rule_compile.specs.RuleCode.{words_at, owns, relation_len, relation_bytes, there_code, condition_words, condition_bytes}
use Rattle.rule_compile.proofs.Pieces.{Any, Tests}
use Rattle.rule_compile.proofs.Combined.{Extends, extends_none, extends_choice, extends_test, tests_none, tests_same, tests_word}
use Rattle.rule_compile.proofs.InTurn.{InTurn, turn_first, turn_second, turn_then, turn_same}
use Rattle.rule_compile.proofs.Texts.{tests_is_there, extends_text_len, extends_bytes, turn_is_text, extends_in_namespace, turn_in_namespace}
use Rattle.rule_compile.proofs.TextArguments.{path_has_text}
use Rattle.rule_compile.proofs.NestedPaths.{extends_is_nested, is_nested_tests}
use Rattle.rule_compile.proofs.Arguments.{turn_argument}

-- ---- the kind

pub kind_back : (kind : KindName) → kind_of (kind_byte (kind_meant kind)) ≡ Some (kind_meant kind)
kind_back Signal = refl
kind_back _ = refl

tests_kind : (image : List ℕ) (kind : kinds.Kind) (name : KindName) → load_word image kind_place ≡ Some (kind_byte kind) → kind_of (kind_byte kind) ≡ Some kind → Tests image Any (kind ≡ kind_meant name) (λ rest. image_word kind_place ∷ want Equal (kind_byte (kind_meant name)) rest)
tests_kind image kind name is known =
    tests_same image Any _ _ (λ rest. image_word kind_place ∷ want Equal (kind_byte (kind_meant name)) rest) (
      λ e. same_Some kind (kind_meant name) (sym known ∙ ap kind_of (eqb-true (kind_byte kind) (kind_byte (kind_meant name)) e) ∙ kind_back name),
      λ same. eq-eqb (kind_byte kind) (kind_byte (kind_meant name)) (ap kind_byte same),
    ) (tests_word image Any kind_place (kind_byte kind) Equal (kind_byte (kind_meant name)) is)

-- ---- the sender

pub bit_shared : (bit power : ℕ) → bit < 2 → 0 < power → not (eqb (bit * power) 0) ≡ eqb bit 1
bit_shared zero power small lit = let e : 0 * power ≡ 0 = omega arith in rw e refl
bit_shared (suc zero) power small lit =
    let e : 1 * power ≡ 0 → ⊥ = λ h. omega arith in rw (ne_eqb (1 * power) 0 e) refl
bit_shared (suc (suc bit)) power small lit = absurd (omega arith)

tests_owns : (image : List ℕ) (slots : List ℕ) (slot : ℕ) (owned : Bool) → load_word image (ownership_place slot) ≡ Some (slice_index slots (slot / 32)) → owned ≡ has_slot slots slot → Tests image Any (owned ≡ true) (owns slot)
tests_owns image slots slot owned is agrees =
    let word : ℕ = slice_index slots (slot / 32) in
    let shares : passes SharesBit word (2 ^ (slot % 32)) ≡ owned = ap (λ (n : ℕ). not (eqb n 0)) (and_pow word (slot % 32)) ∙ bit_shared (bit_at word (slot % 32)) (2 ^ (slot % 32)) (bit_at-lt word (slot % 32)) (pow_pos (slot % 32)) ∙ sym agrees in
    tests_same image Any _ _ (owns slot) (λ e. sym shares ∙ e, λ e. shares ∙ e) (tests_word image Any (ownership_place slot) word SharesBit (2 ^ (slot % 32)) is)

turn_sender : (image : List ℕ) (slots : List ℕ) (slot : ℕ) (name : List ℕ) (sender : Option (List ℕ)) (is_owned owned : Bool) → load_word image (ownership_place slot) ≡ Some (slice_index slots (slot / 32)) → ShowsText image (text_place texts.Sender) sender → AreBytes name → (is_owned ≡ true → owned ≡ has_slot slots slot) → InTurn image (MatchBool is_owned (owned ≡ true) (sender ≡ Some name)) (λ rest. if is_owned then owns slot rest else has_text_len Equal (length name) (text_place texts.Sender) rest) (λ rest. if is_owned then rest else has_bytes (text_place texts.Sender) name rest)
turn_sender image slots slot name sender true owned word shows bytes agrees =
    turn_first image (owned ≡ true) (owns slot) (tests_owns image slots slot owned word (agrees refl))
turn_sender image slots slot name sender false owned word shows bytes agrees =
    turn_is_text image (text_place texts.Sender) sender name shows bytes

-- ---- a text that stands in a relation to a value

some_shown : (shown : Option (List ℕ)) (Q : List ℕ → Type 0) → ((text : List ℕ) × (shown ≡ Some text) × Q text) ↔ IsSomeAnd shown Q
some_shown None Q = (λ p. let e = p.1 in absurd cc, λ none. absurd none)
some_shown (Some text) Q = (λ p. subst Q (sym (same_Some text p.0 p.1)) p.2, λ q. (text, refl, q))

equal_shown : (shown : Option (List ℕ)) (value : List ℕ) → (shown ≡ Some value) ↔ IsSomeAnd shown (λ text. text ≡ value)
equal_shown None value = (λ e. absurd cc, λ none. absurd none)
equal_shown (Some text) value = (λ e. same_Some text value e, λ e. ap (λ (x : List ℕ). Some x) e)

-- a text that has to be there, and is tested then
turn_if_there : (image : List ℕ) (at : ℕ) (shown : Option (List ℕ)) (Q : List ℕ → Type 0) (g : List Ins → List Ins) → ShowsText image at shown → Extends g → ((text : List ℕ) → Tells image at text → Tests image Any (Q text) g) → InTurn image (IsSomeAnd shown Q) (is_there at) g
turn_if_there image at None Q g shows extends tail =
    turn_then image (0 < 0) ⊥ (is_there at) g (tests_is_there image Any at 0 shows.0) extends (λ less. absurd (omega arith)) (λ none. absurd none)
turn_if_there image at (Some text) Q g tells extends tail =
    turn_then image (0 < tells.place) (Q text) (is_there at) g (tests_is_there image Any at tells.place tells.place_word) extends (λ less. tail text tells) (λ q. tells.after_start)

pub below : (p value : List ℕ) → bytes_eq value (47 ∷ []) ≡ false → ((p ≡ value) ⊎ Begins p (value ++ 47 ∷ [])) ↔ InPathNamespace p value
below p value is = (
  λ h. elim h [ inl e ↦ inl e | inr b ↦ inr (inl b) ],
  λ h. elim h [ inl e ↦ inl e | inr b ↦ elim b [ inl s ↦ inr s | inr root ↦ absurd (false≢true (sym is ∙ (bytes_eq-Decides value (47 ∷ [])).1 root)) ] ],
)

turn_path_namespace : (image : List ℕ) (at : ℕ) (path : Option (List ℕ)) (value : List ℕ) (root : Bool) → bytes_eq value (47 ∷ []) ≡ root → ShowsText image at path → AreBytes value → InTurn image (IsSomeAnd path (λ p. InPathNamespace p value)) (λ rest. if root then is_there at rest else has_text_len AtLeast (length value) at rest) (λ rest. if root then rest else in_namespace at 47 value rest)
turn_path_namespace image at path value true is shows bytes =
    let root = (bytes_eq-Decides value (47 ∷ [])).0 is in
    turn_if_there image at path (λ p. InPathNamespace p value) (λ rest. rest) shows extends_none
    (λ p tells. tests_none image Any (InPathNamespace p value) (inr (inr root)))
turn_path_namespace image at path value false is shows bytes =
    turn_same image _ _ (has_text_len AtLeast (length value) at) (in_namespace at 47 value) (
      λ p. (some_shown path (λ p. InPathNamespace p value)).0 (p.0, p.1, (below p.0 value is).0 p.2),
      λ h. let p = (some_shown path (λ p. InPathNamespace p value)).1 h in (p.0, p.1, (below p.0 value is).1 p.2),
    ) (turn_in_namespace image at 47 path value shows bytes)

extends_len : (relation : Relation) (at : ℕ) (value : List ℕ) → Extends (relation_len relation at value)
extends_len relations.Equal at value = extends_text_len Equal (length value) at
extends_len relations.PathNamespace at value =
    let len = has_text_len AtLeast (length value) at in
    extends_choice (bytes_eq value (47 ∷ [])) (is_there at) len (extends_test (image_word at) Above 0) (extends_text_len AtLeast (length value) at)
extends_len relations.NameNamespace at value = extends_text_len AtLeast (length value) at
extends_len relations.NestedPath at value = extends_none

extends_relation : (relation : Relation) (at : ℕ) (value : List ℕ) → Extends (relation_bytes relation at value)
extends_relation relations.Equal at value = extends_bytes at value
extends_relation relations.PathNamespace at value =
    extends_choice (bytes_eq value (47 ∷ [])) (λ rest. rest) (in_namespace at 47 value) extends_none (extends_in_namespace at 47 value)
extends_relation relations.NameNamespace at value = extends_in_namespace at 46 value
extends_relation relations.NestedPath at value = extends_is_nested at value

-- the text of a field
turn_shown : (relation : Relation) (image : List ℕ) (at : ℕ) (shown : Option (List ℕ)) (value : List ℕ) → ShowsText image at shown → AreBytes value → InTurn image (IsSomeAnd shown (λ text. Relates relation text value)) (λ rest. there_code relation at (relation_len relation at value rest)) (relation_bytes relation at value)
turn_shown relations.Equal image at shown value shows bytes =
    turn_same image _ _ (has_text_len Equal (length value) at) (has_bytes at value) (equal_shown shown value) (turn_is_text image at shown value shows bytes)
turn_shown relations.PathNamespace image at shown value shows bytes =
    turn_path_namespace image at shown value (bytes_eq value (47 ∷ [])) refl shows bytes
turn_shown relations.NameNamespace image at shown value shows bytes =
    turn_same image _ _ (has_text_len AtLeast (length value) at) (in_namespace at 46 value) (some_shown shown (λ text. InNamespace text value)) (turn_in_namespace image at 46 shown value shows bytes)
turn_shown relations.NestedPath image at shown value shows bytes =
    turn_if_there image at shown (λ text. AreNested text value) (is_nested at value) shows (extends_is_nested at value) (λ text tells. is_nested_tests image at text value tells bytes)

-- the text of an argument, which is there
turn_told : (relation : Relation) (image : List ℕ) (at : ℕ) (text value : List ℕ) → Tells image at text → AreBytes value → InTurn image (Relates relation text value) (relation_len relation at value) (relation_bytes relation at value)
turn_told relations.NestedPath image at text value tells bytes =
    turn_second image (AreNested text value) (is_nested at value) (is_nested_tests image at text value tells bytes)
turn_told relation image at text value tells bytes = turn_shown relation image at (Some text) value tells bytes

-- ---- what an image shows of each source

shows_field : (image slots : List ℕ) (m : Message) (field : Field) → Shows Two image m slots → ShowsText image (words_at (Header field)) (field_of field m)
shows_field image slots m Interface shows = shows.interface
shows_field image slots m Member shows = shows.member
shows_field image slots m Path shows = shows.path
shows_field image slots m Destination shows = shows.destination

-- ---- each condition

-- the owned names have the name of a condition on the sender exactly where the slot is among the slots
abbrev pub SlotFits : List ℕ → ℕ → (List ℕ → Bool) → Condition → Type 0
SlotFits slots slot owned (Sender name) = is_owned_name name ≡ true → owned name ≡ has_slot slots slot
SlotFits slots slot owned _ = Unit {0}

pub turn_condition : (image bytes : List ℕ) (m : Message) (slots : List ℕ) (owned : List ℕ → Bool) (slot : ℕ) (c : Condition) → Valid bytes m → Shows Two image m slots → slot < 1024 → SlotFits slots slot owned c → AreBytes (value_of c) → InTurn image (ConditionHolds c m owned) (condition_words slot c) (condition_bytes c)
turn_condition image bytes m slots owned slot (Kind kind) valid shows slot_small fits are =
    turn_first image _ (condition_words slot (Kind kind)) (tests_kind image m.kind kind shows.kind valid.kind)
turn_condition image bytes m slots owned slot (Sender name) valid shows slot_small fits are =
    turn_sender image slots slot name (sender_of m) (is_owned_name name) (owned name) (shows.owned slot slot_small) shows.sender are fits
turn_condition image bytes m slots owned slot (Compares (Header field) relation value) valid shows slot_small fits are =
    turn_shown relation image (words_at (Header field)) (field_of field m) value (shows_field image slots m field shows) are
turn_condition image bytes m slots owned slot (Compares (Arg n) relation value) valid shows slot_small fits are =
    let k : ℕ = number_of_arg n in
    turn_argument image k relation (slice_get (arguments_of m) k) (λ text. Relates relation text value) (relation_len relation (argument_place k + 4) value) (relation_bytes relation (argument_place k + 4) value) (shows.argument k (let l = number_small n in omega arith)) (λ a is text. path_has_text bytes m k a valid is text) (extends_len relation (argument_place k + 4) value) (extends_relation relation (argument_place k + 4) value) (λ text tells. turn_told relation image (argument_place k + 4) text value tells are)
