-- The pieces that compare paths and names by their elements.
use Rattle.std.proofs.Common.{◌≡◌, ℕ, ◌+◌, ◌<◌, ◌≤◌, Bool, true, false, List, [], ◌∷◌, ◌++◌, length, Option, Some, None, ◌⊎◌, inl, inr, refl, sym, ap, ◌∙◌, arith, slice_index, bytes_eq}
use Rattle.std.specs.Prelude.{◌==◌, if◌then◌else◌}
use Rattle.std.proofs.lemmas.Bool.{cases_Bool, eqb-true, eqb-false, eq-eqb}
use Rattle.std.proofs.lemmas.List.{append-nil, nil_from_length}
use Rattle.std.proofs.lemmas.Slice.Eq.{bytes_eq-Decides}
use Rattle.bpf_code.specs.declared.operation.Test.TheVariants.{Equal, AtLeast}
use Rattle.bpf_code.specs.declared.operation.Width.TheVariants.{Byte}
use Rattle.message_value.specs.Bytes.{AreBytes}
use Rattle.match_key.specs.declared.relation.Relation.TheVariants.{NameNamespace}
use Rattle.match_rule.specs.Holds.{Begins, InPathNamespace, compared_text}
use Rattle.summary.specs.Shown.{Tells}
use Rattle.rule_compile.proofs.Bytes.{Stands, At}
use Rattle.rule_compile.proofs.Conditions.{below}
use Rattle.rule_compile.proofs.Pieces.{Any}
use Rattle.rule_compile.proofs.Texts.{whole, Separated, Named, named_rest, rest_named}
use Rattle.filter_compile.specs.Holds.{text_of_code}
use Rattle.filter_compile.specs.Pieces.{Piece, holds_next, indexed_test, has_len, from_start, same_bytes, end_or, bytes_then, in_namespace}
use Rattle.filter_compile.specs.TestCode.{path_within}
use Rattle.filter_compile.proofs.TwoExits.{Extends, extends_both, extends_either, extends_choice, extends_word, extends_indexed, extends_from_start, Tests, tests_same, tests_then, tests_else, tests_both, tests_indexed, tests_from_start}
use Rattle.filter_compile.proofs.Units.{unit_loads, extends_same_bytes, tests_same_bytes}
use Rattle.filter_compile.proofs.Texts.{tests_len_is, tests_len_from}

-- ---- after the value

extends_end_or : (separator n at : ℕ) → Extends (end_or separator n at)
extends_end_or separator n at =
    extends_either (has_len Equal n at) (indexed_test Byte n Equal separator) (extends_word (at + 4) Equal n) (extends_indexed Byte n Equal separator)

tests_end_or : (image : List ℕ) (at : ℕ) (text : List ℕ) (n separator : ℕ) → (tells : Tells image at text) → n ≤ length text → Tests image (At tells.place) ((length text ≡ n) ⊎ Separated text n separator) (end_or separator n at)
tests_end_or image at text n separator tells few =
    let X = At tells.place in
    let byte = indexed_test Byte n Equal separator in
    tests_else image X (length text ≡ n) (Separated text n separator) (has_len Equal n at) byte (tests_len_is image X at (length text) n tells.len_word) (extends_indexed Byte n Equal separator) (λ differs.
    let less : n < length text = omega (arith, few, differs) in
    tests_same image X _ (Separated text n separator) byte (λ e. (less, eqb-true (slice_index text n) separator e), λ both. eq-eqb (slice_index text n) separator both.1) (tests_indexed image tells.place Byte n (slice_index text n) Equal separator (unit_loads Byte image tells.place text n tells.lies (omega arith))))

-- ---- the bytes of a value, if it has some

-- the piece, or the bytes and then the piece
abbrev then_if : Bool → List ℕ → Piece → Piece
then_if none value f exits rest = if none then f exits rest else same_bytes 0 value (holds_next exits (f exits rest)) (f exits rest)

extends_then_if : (none : Bool) (value : List ℕ) (f : Piece) → Extends f → Extends (then_if none value f)
extends_then_if true value f extends = extends
extends_then_if false value f extends = extends_both (same_bytes 0 value) f (extends_same_bytes 0 value) extends

extends_bytes_then : (value : List ℕ) (f : Piece) → Extends f → Extends (bytes_then value f)
extends_bytes_then value f extends = extends_then_if (length value == 0) value f extends

tests_then_if : (none : Bool) (image : List ℕ) (at : ℕ) (text value : List ℕ) (P : Type 0) (f : Piece) → (length value == 0) ≡ none → (tells : Tells image at text) → AreBytes value → length value ≤ length text → Extends f → Tests image (At tells.place) P f → Tests image (At tells.place) (Stands text 0 value × P) (then_if none value f)
tests_then_if true image at text value P f is tells bytes few extends t =
    let e : value ≡ [] = nil_from_length value (eqb-true (length value) 0 is) in
    let stands : Stands text 0 value = (text, ap (λ (front : List ℕ). front ++ text) (sym e)) in
    tests_same image (At tells.place) P (Stands text 0 value × P) f (λ p. (stands, p), λ each. each.1) t
tests_then_if false image at text value P f is tells bytes few extends t =
    let s : 0 < length value = (let h = eqb-false (length value) 0 is in omega arith) in
    tests_both image (At tells.place) (Stands text 0 value) P (same_bytes 0 value) f (tests_same_bytes image tells.place text 0 value tells.lies tells.bytes bytes s (omega (arith, few))) extends t

tests_bytes_then : (image : List ℕ) (at : ℕ) (text value : List ℕ) (P : Type 0) (f : Piece) → (tells : Tells image at text) → AreBytes value → length value ≤ length text → Extends f → Tests image (At tells.place) P f → Tests image (At tells.place) (Stands text 0 value × P) (bytes_then value f)
tests_bytes_then image at text value P f tells bytes few extends t =
    tests_then_if (length value == 0) image at text value P f refl tells bytes few extends t

-- ---- the value, or it and a separator

-- what the piece looks at
abbrev Looked : List ℕ → List ℕ → ℕ → Type 0
Looked text value separator =
    (length value ≤ length text) × (Stands text 0 value × ((length text ≡ length value) ⊎ Separated text (length value) separator))

looked_named : (text value : List ℕ) (separator : ℕ) → Looked text value separator → Named text value separator
looked_named text value separator (few, (stands, inl e)) = inl (whole text value stands.0 stands.1 e)
looked_named text value separator (few, (stands, inr s)) = inr (named_rest text value separator stands.0 stands.1 s)

named_looked : (text value : List ℕ) (separator : ℕ) → Named text value separator → Looked text value separator
named_looked text value separator (inl e) =
    let l : length text ≡ length value = ap length e in
    (omega arith, (([], e ∙ sym (append-nil value)), inl l))
named_looked text value separator (inr (rest, is)) =
    let r = rest_named text value separator rest is in
    let less = r.1.0 in
    (omega arith, ((separator ∷ rest, r.0), inr r.1))

extends_named : (separator : ℕ) (value : List ℕ) (at : ℕ) → Extends (from_start at (bytes_then value (end_or separator (length value) at)))
extends_named separator value at =
    extends_from_start at _ (extends_bytes_then value (end_or separator (length value) at) (extends_end_or separator (length value) at))

pub extends_in_namespace : (separator : ℕ) (value : List ℕ) (at : ℕ) → Extends (in_namespace separator value at)
extends_in_namespace separator value at =
    extends_both (has_len AtLeast (length value) at) _ (extends_word (at + 4) AtLeast (length value)) (extends_named separator value at)

pub tests_in_namespace : (image : List ℕ) (at separator : ℕ) (text value : List ℕ) → Tells image at text → AreBytes value → Tests image Any ((text ≡ value) ⊎ Begins text (value ++ separator ∷ [])) (in_namespace separator value at)
tests_in_namespace image at separator text value tells bytes =
    let n = length value in
    let last = end_or separator n at in
    tests_same image Any (Looked text value separator) (Named text value separator) (in_namespace separator value at) (looked_named text value separator, named_looked text value separator)
    (tests_then image Any (n ≤ length text) (Stands text 0 value × ((length text ≡ n) ⊎ Separated text n separator)) (has_len AtLeast n at) (from_start at (bytes_then value last)) (tests_len_from image Any at (length text) n tells.len_word) (extends_named separator value at) (λ few.
    tests_from_start image _ (bytes_then value last) at tells.place tells.place_word (tests_bytes_then image at text value _ last tells bytes few (extends_end_or separator n at) (tests_end_or image at text n separator tells few))))

-- ---- paths

pub extends_path_within : (value : List ℕ) (at : ℕ) → Extends (path_within value at)
extends_path_within value at =
    extends_choice (bytes_eq value (47 ∷ [])) (has_len AtLeast 0 at) (in_namespace 47 value at) (extends_word (at + 4) AtLeast 0) (extends_in_namespace 47 value at)

pub tests_path_within : (image : List ℕ) (at : ℕ) (text value : List ℕ) → Tells image at text → AreBytes value → Tests image Any (InPathNamespace text value) (path_within value at)
tests_path_within image at text value tells bytes = elim (cases_Bool (bytes_eq value (47 ∷ []))) [
  | inl root ↦ (let e = (bytes_eq-Decides value (47 ∷ [])).0 root in
      rw root (tests_same image Any (0 ≤ length text) (InPathNamespace text value) (has_len AtLeast 0 at) (λ _. inr (inr e), λ _. omega arith) (tests_len_from image Any at (length text) 0 tells.len_word)))
  | inr other ↦ rw other (tests_same image Any _ (InPathNamespace text value) (in_namespace 47 value at) (below text value other) (tests_in_namespace image at 47 text value tells bytes))
]

-- ---- names

-- rules compare texts of type `s` too
pub same_name_text : (o : Option (ℕ × List ℕ)) → text_of_code 115 o ≡ compared_text NameNamespace o
same_name_text None = refl
same_name_text (Some found) = refl
