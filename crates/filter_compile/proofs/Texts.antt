-- The pieces that compare a text that an image tells of with a value.
use Rattle.std.proofs.Common.{◌≡◌, ℕ, ◌+◌, ◌-◌, ◌<◌, ◌≤◌, true, List, [], ◌∷◌, ◌++◌, length, take, drop, Some, ◌↔◌, inl, inr, refl, sym, ap, ◌∙◌, arith, subst}
use Rattle.std.specs.Prelude.{◌==◌}
use Rattle.std.proofs.lemmas.Bool.{cases_Bool, eqb-true, eqb-false, eq-eqb, leb-true, le-leb}
use Rattle.std.proofs.lemmas.List.{length-append, length-drop, append-nil, append_assoc, get_or-drop, nil_from_length, take-append-drop, length-take-le, drop_at}
use Rattle.bpf_code.specs.declared.instruction.Ins.{Ins}
use Rattle.bpf_code.specs.declared.operation.Arithmetic.TheVariants.{Add, Sub}
use Rattle.bpf_code.specs.declared.operation.Op.TheVariants.{Compute}
use Rattle.bpf_code.specs.declared.operation.Operand.TheVariants.{Constant, Index}
use Rattle.bpf_code.specs.declared.operation.Test.{Test}
use Rattle.bpf_code.specs.declared.operation.Test.TheVariants.{Equal, AtLeast}
use Rattle.bpf_code.specs.Effects.{passes}
use Rattle.bpf_code.specs.Loads.{load_word}
use Rattle.message_value.specs.Bytes.{AreBytes}
use Rattle.match_rule.specs.Holds.{Begins}
use Rattle.summary.specs.Shown.{Lies, Tells}
use Rattle.rule_compile.specs.Code.{plain, image_word, index_from_a}
use Rattle.rule_compile.proofs.Bytes.{Stands}
use Rattle.rule_compile.proofs.Pieces.{Any}
use Rattle.rule_compile.proofs.Runs.{runs_image_word, runs_index_from_a}
use Rattle.rule_compile.proofs.Texts.{whole}
use Rattle.filter_compile.specs.Holds.{EndsWith}
use Rattle.filter_compile.specs.Pieces.{Piece, both, has_len, from_start, index_back, from_back, same_bytes, len_then, is_text, begins, ends}
use Rattle.filter_compile.proofs.TwoExits.{Extends, extends_both, extends_choice, extends_word, extends_more, extends_from_start, Tests, tests_same, tests_then, tests_word, tests_placed, tests_from_start}
use Rattle.filter_compile.proofs.Runs.{runs_sub, runs_add}
use Rattle.filter_compile.proofs.Units.{extends_same_bytes, tests_same_bytes}

-- ---- lengths

pub tests_len_is : (image : List ℕ) (X : ℕ → Type 0) (at n k : ℕ) → load_word image (at + 4) ≡ Some n → Tests image X (n ≡ k) (has_len Equal k at)
tests_len_is image X at n k is =
    tests_same image X _ _ (has_len Equal k at) (eqb-true n k, eq-eqb n k) (tests_word image X (at + 4) n Equal k is)

pub tests_len_from : (image : List ℕ) (X : ℕ → Type 0) (at n k : ℕ) → load_word image (at + 4) ≡ Some n → Tests image X (k ≤ n) (has_len AtLeast k at)
tests_len_from image X at n k is =
    tests_same image X _ _ (has_len AtLeast k at) (leb-true k n, le-leb k n) (tests_word image X (at + 4) n AtLeast k is)

pub extends_len_then : (test : Test) (value : List ℕ) (at : ℕ) (f : Piece) → Extends f → Extends (len_then test value at f)
extends_len_then test value at f extends =
    extends_choice (length value == 0) (has_len test 0 at) (both (has_len test (length value) at) f) (extends_word (at + 4) test 0) (extends_both (has_len test (length value) at) f (extends_word (at + 4) test (length value)) extends)

-- A fact P of a text that is compared by its length, and then by a piece. Of a value without bytes the length says all.
tests_len_then : (image : List ℕ) (test : Test) (value : List ℕ) (at : ℕ) (text : List ℕ) (Q P : Type 0) (f : Piece) → Tells image at text → Extends f
    → ((value ≡ []) → (passes test (length text) 0 ≡ true) ↔ P)
    → (((passes test (length text) (length value) ≡ true) × Q) ↔ P)
    → (0 < length value → passes test (length text) (length value) ≡ true → Tests image Any Q f)
    → Tests image Any P (len_then test value at f)
tests_len_then image test value at text Q P f tells extends empty filled t = elim (cases_Bool (length value == 0)) [
  | inl none ↦ (let e : value ≡ [] = nil_from_length value (eqb-true (length value) 0 none) in
      rw none (tests_same image Any _ P (has_len test 0 at) (empty e) (tests_word image Any (at + 4) (length text) test 0 tells.len_word)))
  | inr some ↦ (let s : 0 < length value = (let h = eqb-false (length value) 0 some in omega arith) in
      rw some (tests_same image Any _ P (both (has_len test (length value) at) f) filled (tests_then image Any (passes test (length text) (length value) ≡ true) Q (has_len test (length value) at) f (tests_word image Any (at + 4) (length text) test (length value) tells.len_word) extends (λ e. t s e))))
]

-- ---- the text is a value

pub extends_from_bytes : (at : ℕ) (value : List ℕ) → Extends (from_start at (same_bytes 0 value))
extends_from_bytes at value = extends_from_start at (same_bytes 0 value) (extends_same_bytes 0 value)

pub extends_is_text : (value : List ℕ) (at : ℕ) → Extends (is_text value at)
extends_is_text value at = extends_len_then Equal value at (from_start at (same_bytes 0 value)) (extends_from_bytes at value)

-- the text begins with the value
tests_front : (image : List ℕ) (at : ℕ) (text value : List ℕ) → Tells image at text → AreBytes value → 0 < length value → length value ≤ length text → Tests image Any (Stands text 0 value) (from_start at (same_bytes 0 value))
tests_front image at text value tells bytes some few =
    tests_from_start image (Stands text 0 value) (same_bytes 0 value) at tells.place tells.place_word (tests_same_bytes image tells.place text 0 value tells.lies tells.bytes bytes some (omega (arith, few)))

pub tests_is_text : (image : List ℕ) (at : ℕ) (text value : List ℕ) → Tells image at text → AreBytes value → Tests image Any (text ≡ value) (is_text value at)
tests_is_text image at text value tells bytes =
    tests_len_then image Equal value at text (Stands text 0 value) (text ≡ value) (from_start at (same_bytes 0 value)) tells (extends_from_bytes at value) (λ none. (
      λ e. nil_from_length text (eqb-true (length text) 0 e) ∙ sym none,
      λ e. eq-eqb (length text) 0 (ap length (e ∙ none)),
    )) (
      λ each. whole text value each.1.0 each.1.1 (eqb-true (length text) (length value) each.0),
      λ e. (eq-eqb (length text) (length value) (ap length e), ([], e ∙ sym (append-nil value))),
    ) (λ some e. tests_front image at text value tells bytes some (let l = eqb-true (length text) (length value) e in omega arith))

-- ---- it begins or ends with a value

pub extends_begins : (value : List ℕ) (at : ℕ) → Extends (begins value at)
extends_begins value at = extends_len_then AtLeast value at (from_start at (same_bytes 0 value)) (extends_from_bytes at value)

longer : (text front back : List ℕ) → text ≡ front ++ back → (length front ≤ length text) × (length back ≤ length text)
longer text front back is = (omega (arith, ap length is, length-append front back), omega (arith, ap length is, length-append front back))

pub tests_begins : (image : List ℕ) (at : ℕ) (text value : List ℕ) → Tells image at text → AreBytes value → Tests image Any (Begins text value) (begins value at)
tests_begins image at text value tells bytes =
    tests_len_then image AtLeast value at text (Stands text 0 value) (Begins text value) (from_start at (same_bytes 0 value)) tells (extends_from_bytes at value) (λ none. (
      λ e. (text, ap (λ (front : List ℕ). front ++ text) (sym none)),
      λ p. le-leb 0 (length text) (omega arith),
    )) (
      λ each. each.1,
      λ p. (le-leb (length value) (length text) (longer text value p.0 p.1).0, p),
    ) (λ some e. tests_front image at text value tells bytes some (leb-true (length value) (length text) e))

extends_back : (value : List ℕ) (at : ℕ) → Extends (from_back (length value) at (same_bytes 0 value))
extends_back value at =
    let last = extends_more index_from_a (same_bytes 0 value) (extends_same_bytes 0 value) in
    let add = extends_more (plain (Compute Add Index) 0) (λ exits rest. index_from_a ∷ same_bytes 0 value exits rest) last in
    let place = extends_more (image_word at) _ add in
    let index = extends_more index_from_a _ place in
    let sub = extends_more (plain (Compute Sub Constant) (length value)) _ index in
    extends_more (image_word (at + 4)) _ sub

pub extends_ends : (value : List ℕ) (at : ℕ) → Extends (ends value at)
extends_ends value at = extends_len_then AtLeast value at (from_back (length value) at (same_bytes 0 value)) (extends_back value at)

-- where the last bytes of a text lie
lies_back : (image : List ℕ) (place : ℕ) (text : List ℕ) (d : ℕ) → d ≤ length text → Lies image place text → Lies image (place + d) (drop d text)
lies_back image place text d few (front, tail, is, at) =
    let cut : text ≡ take d text ++ drop d text = sym (take-append-drop d text) in (
      front ++ take d text,
      tail,
      is ∙ ap (λ (bytes : List ℕ). front ++ (bytes ++ tail)) cut ∙ ap (λ (bytes : List ℕ). front ++ bytes) (append_assoc (take d text) (drop d text) tail) ∙ sym (append_assoc front (take d text) (drop d text ++ tail)),
      omega (arith, length-append front (take d text), length-take-le d text few, at),
    )

bytes_back : (text : List ℕ) (d : ℕ) → AreBytes text → AreBytes (drop d text)
bytes_back text d are i = subst (λ (b : ℕ). b < 256) (sym (get_or-drop d text i 0)) (are (d + i))

tests_back : (image : List ℕ) (at : ℕ) (text value : List ℕ) → (tells : Tells image at text) → AreBytes value → 0 < length value → length value ≤ length text → Tests image Any (Stands (drop (length text - length value) text) 0 value) (from_back (length value) at (same_bytes 0 value))
tests_back image at text value tells bytes some few =
    let n = length value in
    let d = length text - n in
    let place = tells.place in
    let back : List ℕ = drop d text in
    let len : length back ≡ n = omega (arith, length-drop d text) in
    let end = tells.end_fits in
    tests_placed image (Stands back 0 value) (place + d) (index_back n at) (same_bytes 0 value) (λ rest v leads a x _.
    let last : List Ins = index_from_a ∷ rest in
    let add : List Ins = plain (Compute Add Index) 0 ∷ last in
    let word : List Ins = image_word at ∷ add in
    let index : List Ins = index_from_a ∷ word in
    let sub : List Ins = plain (Compute Sub Constant) n ∷ index in
    runs_image_word sub image (at + 4) (length text) a x v tells.len_word
    (runs_sub index image n d (length text) x v (omega arith) (omega arith) (omega arith)
    (runs_index_from_a word image d x v
    (runs_image_word add image at place d d v tells.place_word
    (runs_add last image place d v (omega arith)
    (runs_index_from_a rest image (place + d) d v (leads (place + d) (place + d) refl)))))))
    (tests_same_bytes image (place + d) back 0 value (lies_back image place text d (omega arith) tells.lies) (bytes_back text d tells.bytes) bytes some (omega (arith, len)))

pub tests_ends : (image : List ℕ) (at : ℕ) (text value : List ℕ) → Tells image at text → AreBytes value → Tests image Any (EndsWith text value) (ends value at)
tests_ends image at text value tells bytes =
    let d = length text - length value in
    tests_len_then image AtLeast value at text (Stands (drop d text) 0 value) (EndsWith text value) (from_back (length value) at (same_bytes 0 value)) tells (extends_back value at) (λ none. (
      λ e. (text, sym (append-nil text) ∙ ap (λ (back : List ℕ). text ++ back) (sym none)),
      λ p. le-leb 0 (length text) (omega arith),
    )) (
      λ each.
          let few = leb-true (length value) (length text) each.0 in
          let len : length (drop d text) ≡ length value = omega (arith, length-drop d text) in
          (take d text, sym (take-append-drop d text) ∙ ap (λ (back : List ℕ). take d text ++ back) (whole (drop d text) value each.1.0 each.1.1 len)),
      λ p.
          let l = longer text p.0 value p.1 in
          let e : length p.0 ≡ d = omega (arith, ap length p.1, length-append p.0 value) in
          (le-leb (length value) (length text) l.1, ([], ap (λ (t : List ℕ). drop d t) p.1 ∙ drop_at p.0 value d e ∙ sym (append-nil value))),
    ) (λ some e. tests_back image at text value tells bytes some (leb-true (length value) (length text) e))
