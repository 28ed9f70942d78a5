-- The pieces that test a text that an image tells of.
use Rattle.std.proofs.Common.{◌≡◌, ℕ, ◌+◌, ◌<◌, ◌≤◌, Bool, true, false, List, [], ◌∷◌, ◌++◌, length, eqb, Option, Some, None, ◌⊎◌, inl, inr, refl, sym, ap, ◌∙◌, arith, subst, slice_index, ◌==◌}
use Rattle.std.proofs.lemmas.Bool.{false≢true, eqb-true, eqb-false, eq-eqb, leb-true, le-leb, lt-ltb, ltb-true}
use Rattle.std.proofs.lemmas.List.{length-append, append-nil, append_assoc, get_or_at, nil_from_length}
use Rattle.std.proofs.lemmas.Option.{same_Some}
use Rattle.bpf_code.specs.declared.instruction.Ins.{Ins}
use Rattle.bpf_code.specs.declared.operation.Width.TheVariants.{Byte}
use Rattle.bpf_code.specs.declared.operation.Test.{Test}
use Rattle.bpf_code.specs.declared.operation.Test.TheVariants.{Equal, Above, AtLeast}
use Rattle.bpf_code.specs.Loads.{load_word}
use Rattle.bpf_code.specs.Effects.{passes}
use Rattle.match_rule.specs.Holds.{Begins}
use Rattle.summary.specs.Shown.{Tells, ShowsText}
use Rattle.message_value.specs.Bytes.{AreBytes}
use Rattle.rule_compile.specs.Code.{image_word, load_indexed, want, same_bytes, has_len, is_there, is_there_if, has_text_len, index_text, has_bytes, may_end, in_namespace}
use Rattle.rule_compile.proofs.Pieces.{Any, Tests}
use Rattle.rule_compile.proofs.InTurn.{InTurn, turn_then, turn_same}
use Rattle.rule_compile.proofs.Combined.{Extends, extends_none, extends_choice, extends_then, extends_test, extends_settle, extends_index_text, tests_none, tests_same, tests_then, tests_both, tests_word, tests_settle, tests_index_text}
use Rattle.rule_compile.proofs.Bytes.{Stands, At, tests_byte, extends_same_bytes, tests_same_bytes}

-- ---- the length, and whether the text is there

pub tests_len_is : (image : List ℕ) (X : ℕ → Type 0) (at n k : ℕ) → load_word image (at + 4) ≡ Some n → Tests image X (n ≡ k) (has_len Equal k at)
tests_len_is image X at n k is =
    tests_same image X _ _ (has_len Equal k at) (eqb-true n k, eq-eqb n k) (tests_word image X (at + 4) n Equal k is)

pub tests_len_from : (image : List ℕ) (X : ℕ → Type 0) (at n k : ℕ) → load_word image (at + 4) ≡ Some n → Tests image X (k ≤ n) (has_len AtLeast k at)
tests_len_from image X at n k is =
    tests_same image X _ _ (has_len AtLeast k at) (leb-true k n, le-leb k n) (tests_word image X (at + 4) n AtLeast k is)

-- the text is there
pub tests_is_there : (image : List ℕ) (X : ℕ → Type 0) (at place : ℕ) → load_word image at ≡ Some place → Tests image X (0 < place) (is_there at)
tests_is_there image X at place is =
    tests_same image X _ _ (is_there at) (ltb-true 0 place, lt-ltb 0 place) (tests_word image X at place Above 0 is)

extends_is_there_if : (empty : Bool) (at : ℕ) → Extends (is_there_if empty at)
extends_is_there_if empty at = extends_choice empty (is_there at) (λ rest. rest) (extends_test (image_word at) Above 0) extends_none

tests_is_there_if : (image : List ℕ) (empty : Bool) (at place : ℕ) → load_word image at ≡ Some place → 0 < place → Tests image Any (0 < place) (is_there_if empty at)
tests_is_there_if image true at place is begun = tests_is_there image Any at place is
tests_is_there_if image false at place is begun = tests_none image Any (0 < place) begun

tests_absent : (image : List ℕ) (empty : Bool) (at : ℕ) → empty ≡ true → load_word image at ≡ Some 0 → Tests image Any ⊥ (is_there_if empty at)
tests_absent image true at e is =
    tests_same image Any (0 < 0) ⊥ (is_there at) (λ h. absurd (omega (arith, h)), λ none. absurd none) (tests_is_there image Any at 0 is)
tests_absent image false at e is = absurd (false≢true e)

-- ---- the length of a text that is there

pub extends_text_len : (test : Test) (n at : ℕ) → Extends (has_text_len test n at)
extends_text_len test n at =
    extends_then (has_len test n at) (is_there_if (n == 0) at) (extends_test (image_word (at + 4)) test n) (extends_is_there_if (n == 0) at)

-- an absent text has no length
absent_text_len : (image : List ℕ) (test : Test) (n at : ℕ) → load_word image at ≡ Some 0 → load_word image (at + 4) ≡ Some 0 → (passes test 0 n ≡ true → n ≡ 0) → Tests image Any ⊥ (has_text_len test n at)
absent_text_len image test n at place len small =
    tests_same image Any ((passes test 0 n ≡ true) × ⊥) ⊥ (has_text_len test n at) (λ both. both.1, λ none. absurd none) (tests_then image Any (passes test 0 n ≡ true) ⊥ (has_len test n at) (is_there_if (n == 0) at) (tests_word image Any (at + 4) 0 test n len) (extends_is_there_if (n == 0) at) (λ e. tests_absent image (n == 0) at (eq-eqb n 0 (small e)) place))

tests_text_len : (image : List ℕ) (test : Test) (n at : ℕ) (text : List ℕ) → (tells : Tells image at text) → Tests image Any (passes test (length text) n ≡ true) (has_text_len test n at)
tests_text_len image test n at text tells =
    tests_same image Any ((passes test (length text) n ≡ true) × (0 < tells.place)) _ (has_text_len test n at) (λ both. both.0, λ e. (e, tells.after_start)) (tests_both image Any (passes test (length text) n ≡ true) (0 < tells.place) (has_len test n at) (is_there_if (n == 0) at) (tests_word image Any (at + 4) (length text) test n tells.len_word) (tests_is_there_if image (n == 0) at tells.place tells.place_word tells.after_start))

-- ---- the length first, and then the bytes

-- of an absent text nothing holds
turn_absent : (image : List ℕ) (P : Type 0) (test : Test) (n at : ℕ) (g : List Ins → List Ins) → load_word image at ≡ Some 0 → load_word image (at + 4) ≡ Some 0 → (passes test 0 n ≡ true → n ≡ 0) → Extends g → (P → ⊥) → InTurn image P (has_text_len test n at) g
turn_absent image P test n at g place len small extends none =
    turn_then image ⊥ P (has_text_len test n at) g (absent_text_len image test n at place len small) extends (λ never. absurd never) none

turn_text : (image : List ℕ) (P : Type 0) (test : Test) (n at : ℕ) (text : List ℕ) (f : List Ins → List Ins) → (tells : Tells image at text) → Extends f → (passes test (length text) n ≡ true → Tests image (At tells.place) P f) → InTurn image ((passes test (length text) n ≡ true) × P) (has_text_len test n at) (λ rest. index_text at (f rest))
turn_text image P test n at text f tells extends t =
    turn_then image (passes test (length text) n ≡ true) _ (has_text_len test n at) (λ rest. index_text at (f rest)) (tests_text_len image test n at text tells) (extends_index_text f at extends) (λ e. tests_same image Any P _ (λ rest. index_text at (f rest)) (λ p. (e, p), λ both. both.1) (tests_index_text image P f at tells.place tells.place_word (t e))) (λ both. both.0)

-- ---- the text is a value

pub extends_bytes : (at : ℕ) (value : List ℕ) → Extends (has_bytes at value)
extends_bytes at value = extends_index_text (same_bytes 0 value) at (extends_same_bytes 0 value)

-- all of the text
pub whole : (text value rest : List ℕ) → text ≡ value ++ rest → length text ≡ length value → text ≡ value
whole text value rest is e =
    let none : rest ≡ [] = nil_from_length rest (omega (arith, ap length is, length-append value rest)) in
    is ∙ ap (λ (bytes : List ℕ). value ++ bytes) none ∙ append-nil value

pub turn_is_text : (image : List ℕ) (at : ℕ) (shown : Option (List ℕ)) (value : List ℕ) → ShowsText image at shown → AreBytes value → InTurn image (shown ≡ Some value) (has_text_len Equal (length value) at) (has_bytes at value)
turn_is_text image at None value shows bytes =
    turn_absent image _ Equal (length value) at (has_bytes at value) shows.0 shows.1 (λ e. sym (eqb-true 0 (length value) e)) (extends_bytes at value) (λ h. cc)
turn_is_text image at (Some text) value tells bytes =
    turn_same image _ _ (has_text_len Equal (length value) at) (has_bytes at value) (
      λ both. ap Some (whole text value both.1.0 both.1.1 (eqb-true (length text) (length value) both.0)),
      λ h. let e = same_Some text value h in (eq-eqb (length text) (length value) (ap length e), ([], e ∙ sym (append-nil value))),
    ) (turn_text image (Stands text 0 value) Equal (length value) at text (same_bytes 0 value) tells (extends_same_bytes 0 value) (λ e. tests_same_bytes image tells.place text 0 value tells.lies tells.bytes bytes (let l = eqb-true (length text) (length value) e in omega arith)))

-- ---- the text is in a namespace

-- the value is all of the text, or the separator follows it
abbrev end_or_separator : ℕ → ℕ → ℕ → List Ins → List Ins
end_or_separator at n separator rest = may_end at n rest (load_indexed Byte n ∷ want Equal separator rest)

extends_end_or_separator : (at n separator : ℕ) → Extends (end_or_separator at n separator)
extends_end_or_separator at n separator =
    extends_settle (λ rest. load_indexed Byte n ∷ want Equal separator rest) (at + 4) Equal n (extends_test (load_indexed Byte n) Equal separator)

extends_named : (at separator : ℕ) (value : List ℕ) → Extends (λ rest. same_bytes 0 value (end_or_separator at (length value) separator rest))
extends_named at separator value =
    extends_then (same_bytes 0 value) (end_or_separator at (length value) separator) (extends_same_bytes 0 value) (extends_end_or_separator at (length value) separator)

pub extends_in_namespace : (at separator : ℕ) (value : List ℕ) → Extends (in_namespace at separator value)
extends_in_namespace at separator value =
    extends_index_text (λ rest. same_bytes 0 value (end_or_separator at (length value) separator rest)) at (extends_named at separator value)

abbrev pub Separated : List ℕ → ℕ → ℕ → Type 0
Separated text n separator = (n < length text) × (slice_index text n ≡ separator)

tests_end_or_separator : (image : List ℕ) (at : ℕ) (text : List ℕ) (n separator : ℕ) → (tells : Tells image at text) → n ≤ length text → Tests image (At tells.place) ((eqb (length text) n ≡ true) ⊎ Separated text n separator) (end_or_separator at n separator)
tests_end_or_separator image at text n separator tells few =
    tests_settle image (At tells.place) (Separated text n separator) (λ rest. load_indexed Byte n ∷ want Equal separator rest) (at + 4) (length text) Equal n tells.len_word (extends_test (load_indexed Byte n) Equal separator) (
    λ differs. let less : n < length text = let ne = eqb-false (length text) n differs in omega arith in
    tests_same image (At tells.place) _ _ (λ rest. load_indexed Byte n ∷ want Equal separator rest) (λ e. (less, e), λ both. both.1) (tests_byte image tells.place text n separator tells.lies (omega arith))
    )

abbrev pub Named : List ℕ → List ℕ → ℕ → Type 0
Named text value separator = (text ≡ value) ⊎ Begins text (value ++ separator ∷ [])

pub named_rest : (text value : List ℕ) (separator : ℕ) (rest : List ℕ) → text ≡ value ++ rest → Separated text (length value) separator → Begins text (value ++ separator ∷ [])
named_rest text value separator [] is (less, at) =
    absurd (omega (arith, ap length is, length-append value []))
named_rest text value separator (b ∷ rest) is (less, at) =
    let here : slice_index text (length value) ≡ b = ap (λ (bytes : List ℕ). slice_index bytes (length value)) is ∙ get_or_at value b rest 0 (length value) refl in
    let same : b ≡ separator = sym here ∙ at in
    (rest, is ∙ ap (λ (c : ℕ). value ++ c ∷ rest) same ∙ sym (append_assoc value (separator ∷ []) rest))

pub rest_named : (text value : List ℕ) (separator : ℕ) (rest : List ℕ) → text ≡ (value ++ separator ∷ []) ++ rest → (text ≡ value ++ (separator ∷ rest)) × Separated text (length value) separator
rest_named text value separator rest is =
    let e : text ≡ value ++ (separator ∷ rest) = is ∙ append_assoc value (separator ∷ []) rest in
    (e, (omega (arith, ap length e, length-append value (separator ∷ rest)), ap (λ (bytes : List ℕ). slice_index bytes (length value)) e ∙ get_or_at value separator rest 0 (length value) refl))

-- what the piece looks at
abbrev Looked : List ℕ → List ℕ → ℕ → Type 0
Looked text value separator =
    (passes AtLeast (length text) (length value) ≡ true) × (Stands text 0 value × ((eqb (length text) (length value) ≡ true) ⊎ Separated text (length value) separator))

looked_named : (text value : List ℕ) (separator : ℕ) → Looked text value separator → Named text value separator
looked_named text value separator (long, (stands, inl e)) =
    inl (whole text value stands.0 stands.1 (eqb-true (length text) (length value) e))
looked_named text value separator (long, (stands, inr s)) = inr (named_rest text value separator stands.0 stands.1 s)

named_looked : (text value : List ℕ) (separator : ℕ) → Named text value separator → Looked text value separator
named_looked text value separator (inl e) =
    let l : length text ≡ length value = ap length e in
    (le-leb (length value) (length text) (omega arith), (([], e ∙ sym (append-nil value)), inl (eq-eqb (length text) (length value) l)))
named_looked text value separator (inr (rest, is)) =
    let r = rest_named text value separator rest is in
    let less = r.1.0 in
    (le-leb (length value) (length text) (omega arith), ((separator ∷ rest, r.0), inr r.1))

-- a text is in a namespace
abbrev InSpace : Option (List ℕ) → List ℕ → ℕ → Type 0
InSpace shown value separator = (text : List ℕ) × (shown ≡ Some text) × Named text value separator

pub turn_in_namespace : (image : List ℕ) (at separator : ℕ) (shown : Option (List ℕ)) (value : List ℕ) → ShowsText image at shown → AreBytes value → InTurn image ((text : List ℕ) × (shown ≡ Some text) × ((text ≡ value) ⊎ Begins text (value ++ separator ∷ []))) (has_text_len AtLeast (length value) at) (in_namespace at separator value)
turn_in_namespace image at separator None value shows bytes =
    turn_absent image (InSpace None value separator) AtLeast (length value) at (in_namespace at separator value) shows.0 shows.1 (λ e. let l = leb-true (length value) 0 e in omega arith) (extends_in_namespace at separator value) (λ p. let e = p.1 in cc)
turn_in_namespace image at separator (Some text) value tells bytes =
    turn_same image _ _ (has_text_len AtLeast (length value) at) (in_namespace at separator value) (
      λ looked. (text, refl, looked_named text value separator looked),
      λ p. named_looked text value separator (subst (λ (t : List ℕ). Named t value separator) (sym (same_Some text p.0 p.1)) p.2),
    ) (turn_text image (Stands text 0 value × ((eqb (length text) (length value) ≡ true) ⊎ Separated text (length value) separator)) AtLeast (length value) at text (λ rest. same_bytes 0 value (end_or_separator at (length value) separator rest)) tells (extends_named at separator value) (λ e. let l = leb-true (length value) (length text) e in tests_then image (At tells.place) _ _ (same_bytes 0 value) (end_or_separator at (length value) separator) (tests_same_bytes image tells.place text 0 value tells.lies tells.bytes bytes (omega arith)) (extends_end_or_separator at (length value) separator) (λ _. tests_end_or_separator image at text (length value) separator tells l)))
