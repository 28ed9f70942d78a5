-- The bytes of a text that lies in an image, and the piece that compares them.
use Rattle.std.proofs.Common.{◌≡◌, ℕ, zero, suc, ◌+◌, ◌-◌, ◌*◌, ◌/◌, ◌<◌, ◌≤◌, inl, inr, List, [], ◌∷◌, ◌++◌, length, drop, Some, ◌↔◌, refl, sym, ap, ◌∙◌, arith, subst, slice_index}
use Rattle.std.proofs.lemmas.Bool.{eqb-true, eq-eqb, le-leb, cases_lt}
use Rattle.std.proofs.lemmas.List.{length-append, get_or-append-add, get_or_append_left, get_or-drop, drop_more}
use Rattle.bpf_code.specs.declared.operation.Width.TheVariants.{Word, Half, Byte}
use Rattle.bpf_code.specs.declared.operation.Test.TheVariants.{Equal}
use Rattle.bpf_code.specs.Loads.{load_byte, load_half, load_word}
use Rattle.summary.specs.Shown.{Lies}
use Rattle.message_value.specs.Bytes.{AreBytes}
use Rattle.rule_compile.specs.Code.{load_indexed, want, half_number, four, same_word, same_words, same_bytes}
use Rattle.rule_compile.proofs.Pieces.{Tests}
use Rattle.rule_compile.proofs.Combined.{Extends, extends_none, extends_then, extends_test, tests_none, tests_same, tests_then, tests_both, tests_indexed}

-- ---- where a text lies

lies_inside : (image : List ℕ) (place : ℕ) (text : List ℕ) → Lies image place text → place + length text ≤ length image
lies_inside image place text (front, tail, is, at) =
    omega (arith, ap length is, length-append front (text ++ tail), length-append text tail, at)

lies_at : (image : List ℕ) (place : ℕ) (text : List ℕ) (i : ℕ) → Lies image place text → i < length text → slice_index image (place + i) ≡ slice_index text i
lies_at image place text i (front, tail, is, at) inside =
    ap (λ (bytes : List ℕ). slice_index bytes (place + i)) is
    ∙ ap (λ (p : ℕ). slice_index (front ++ (text ++ tail)) (p + i)) (sym at)
    ∙ get_or-append-add front (text ++ tail) i 0
    ∙ get_or_append_left text tail 0 i inside

pub loads_byte : (image : List ℕ) (place : ℕ) (text : List ℕ) (at : ℕ) → Lies image place text → at + 1 ≤ length text → load_byte image (place + at) ≡ Some (slice_index text at)
loads_byte image place text at lies inside =
    let l = lies_inside image place text lies in
    let h : place + at + 1 ≤ length image = omega arith in
    let a = lies_at image place text at lies (omega arith) in
    rw (le-leb (place + at + 1) (length image) h, a) refl

pub loads_half : (image : List ℕ) (place : ℕ) (text : List ℕ) (at : ℕ) → Lies image place text → at + 2 ≤ length text → load_half image (place + at) ≡ Some (half_number (slice_index text at) (slice_index text (at + 1)))
loads_half image place text at lies inside =
    let l = lies_inside image place text lies in
    let h : place + at + 2 ≤ length image = omega arith in
    let a = lies_at image place text at lies (omega arith) in
    let e : place + at + 1 ≡ place + (at + 1) = omega arith in
    let b = lies_at image place text (at + 1) lies (omega arith) in
    rw (le-leb (place + at + 2) (length image) h, a, e, b) refl

pub loads_word : (image : List ℕ) (place : ℕ) (text : List ℕ) (at : ℕ) → Lies image place text → at + 4 ≤ length text → load_word image (place + at) ≡ Some (four (slice_index text at) (slice_index text (at + 1)) (slice_index text (at + 2)) (slice_index text (at + 3)))
loads_word image place text at lies inside =
    let l = lies_inside image place text lies in
    let h : place + at + 4 ≤ length image = omega arith in
    let a = lies_at image place text at lies (omega arith) in
    let e : place + at + 1 ≡ place + (at + 1) = omega arith in
    let b = lies_at image place text (at + 1) lies (omega arith) in
    let f : place + at + 2 ≡ place + (at + 2) = omega arith in
    let c = lies_at image place text (at + 2) lies (omega arith) in
    let g : place + at + 3 ≡ place + (at + 3) = omega arith in
    let d = lies_at image place text (at + 3) lies (omega arith) in
    rw (le-leb (place + at + 4) (length image) h, a, e, b, f, c, g, d) refl

-- ---- a value stands at a place of a text

abbrev pub Stands : List ℕ → ℕ → List ℕ → Type 0
Stands text at value = (rest : List ℕ) × (drop at text ≡ value ++ rest)

stands_none : (text : List ℕ) (at : ℕ) → Stands text at []
stands_none text at = (drop at text, refl)

stands_more : (text : List ℕ) (at a : ℕ) (more : List ℕ) → at < length text → ((slice_index text at ≡ a) × Stands text (at + 1) more) ↔ Stands text at (a ∷ more)
stands_more text at a more inside =
    let e : drop at text ≡ slice_index text at ∷ drop (at + 1) text = drop_more text at 0 inside in (
      λ both. (both.1.0, e ∙ ap (λ (b : ℕ). b ∷ drop (at + 1) text) both.0 ∙ ap (λ (bs : List ℕ). a ∷ bs) both.1.1),
      λ stands. let is : slice_index text at ∷ drop (at + 1) text ≡ a ∷ (more ++ stands.0) = sym e ∙ stands.1 in (cc, (stands.0, cc)),
    )

stands_on : (text : List ℕ) (at to : ℕ) (value : List ℕ) → at ≡ to → Stands text at value → Stands text to value
stands_on text at to value e stands = subst (λ (p : ℕ). Stands text p value) e stands

stands_two : (text : List ℕ) (at a b : ℕ) (more : List ℕ) → at + 2 ≤ length text → (((slice_index text at ≡ a) × (slice_index text (at + 1) ≡ b)) × Stands text (at + 2) more) ↔ Stands text at (a ∷ b ∷ more)
stands_two text at a b more inside =
    let first = stands_more text at a (b ∷ more) (omega arith) in
    let second = stands_more text (at + 1) b more (omega arith) in
    let e : at + 1 + 1 ≡ at + 2 = omega arith in (
      λ both. first.0 (both.0.0, second.0 (both.0.1, stands_on text (at + 2) (at + 1 + 1) more (sym e) both.1)),
      λ stands. let x = first.1 stands in let y = second.1 x.1 in ((x.0, y.0), stands_on text (at + 1 + 1) (at + 2) more e y.1),
    )

abbrev AreFour : List ℕ → ℕ → ℕ → ℕ → ℕ → ℕ → Type 0
AreFour text at a b c d =
    (slice_index text at ≡ a) × (slice_index text (at + 1) ≡ b) × (slice_index text (at + 2) ≡ c) × (slice_index text (at + 3) ≡ d)

-- the bytes of a text from `at` on are those of a value, in a range of the value's places
abbrev pub Agree : List ℕ → ℕ → List ℕ → ℕ → ℕ → Type 0
Agree text at value from to = (i : ℕ) → from ≤ i → i < to → slice_index text (at + i) ≡ slice_index value i

pub stands_agree : (text : List ℕ) (at : ℕ) (value : List ℕ) → Stands text at value → Agree text at value 0 (length value)
stands_agree text at value (rest, is) i low high =
    sym (get_or-drop at text i 0) ∙ ap (λ (bytes : List ℕ). slice_index bytes i) is ∙ get_or_append_left value rest 0 i high

pub agree_stands : (text : List ℕ) (at : ℕ) (value : List ℕ) → at + length value ≤ length text → Agree text at value 0 (length value) → Stands text at value
agree_stands text at [] inside agree = stands_none text at
agree_stands text at (a ∷ more) inside agree =
    let e : at + 0 ≡ at = omega arith in
    let next : Agree text (at + 1) more 0 (length more) = (λ i low high. let f : at + 1 + i ≡ at + suc i = omega arith in ap (slice_index text) f ∙ agree (suc i) (omega arith) (omega (arith, high))) in
    (stands_more text at a more (omega (arith, inside))).0 (ap (slice_index text) (sym e) ∙ agree 0 (omega arith) (omega arith), agree_stands text (at + 1) more (omega (arith, inside)) next)

-- ---- bytes as numbers

pub two_same : (a b c d : ℕ) → b < 256 → d < 256 → half_number a b ≡ half_number c d → (a ≡ c) × (b ≡ d)
two_same a b c d small_b small_d e = (omega arith, omega arith)

pub four_same : (a b c d e f g h : ℕ) → b < 256 → c < 256 → d < 256 → f < 256 → g < 256 → h < 256 → four a b c d ≡ four e f g h → (a ≡ e) × (b ≡ f) × (c ≡ g) × (d ≡ h)
four_same a b c d e f g h sb sc sd sf sg sh is =
    let x : ((a * 256 + b) * 256 + c ≡ (e * 256 + f) * 256 + g) × (d ≡ h) = two_same ((a * 256 + b) * 256 + c) d ((e * 256 + f) * 256 + g) h sd sh is in
    let y : (a * 256 + b ≡ e * 256 + f) × (c ≡ g) = two_same (a * 256 + b) c (e * 256 + f) g sc sg x.0 in
    let z = two_same a b e f sb sf y.0 in
    (z.0, z.1, y.1, x.1)

-- ---- a piece that compares some bytes

-- X is the text's place
abbrev pub At : ℕ → ℕ → Type 0
At place x = x ≡ place

pub tests_byte : (image : List ℕ) (place : ℕ) (text : List ℕ) (at a : ℕ) → Lies image place text → at + 1 ≤ length text → Tests image (At place) (slice_index text at ≡ a) (λ rest. load_indexed Byte at ∷ want Equal a rest)
tests_byte image place text at a lies inside =
    tests_same image (At place) _ _ (λ rest. load_indexed Byte at ∷ want Equal a rest) (eqb-true (slice_index text at) a, eq-eqb (slice_index text at) a) (tests_indexed image place Byte at (slice_index text at) Equal a (loads_byte image place text at lies inside))

tests_two : (image : List ℕ) (place : ℕ) (text : List ℕ) (at a b : ℕ) → Lies image place text → AreBytes text → b < 256 → at + 2 ≤ length text → Tests image (At place) ((slice_index text at ≡ a) × (slice_index text (at + 1) ≡ b)) (λ rest. load_indexed Half at ∷ want Equal (half_number a b) rest)
tests_two image place text at a b lies are small inside =
    let w : ℕ = half_number (slice_index text at) (slice_index text (at + 1)) in
    tests_same image (At place) _ _ (λ rest. load_indexed Half at ∷ want Equal (half_number a b) rest) (
      λ e. two_same (slice_index text at) (slice_index text (at + 1)) a b (are (at + 1)) small (eqb-true w (half_number a b) e),
      λ both. eq-eqb w (half_number a b) (rw (both.0, both.1) refl),
    ) (tests_indexed image place Half at w Equal (half_number a b) (loads_half image place text at lies inside))

-- ---- the words of a value

-- a word of a text is that of a value
abbrev SameWord : List ℕ → ℕ → List ℕ → ℕ → Type 0
SameWord text at value i =
    AreFour text (at + i) (slice_index value i) (slice_index value (i + 1)) (slice_index value (i + 2)) (slice_index value (i + 3))

extends_word : (at : ℕ) (value : List ℕ) (i : ℕ) → Extends (same_word at value i)
extends_word at value i = extends_test (load_indexed Word (at + i)) Equal _

word_agrees : (text : List ℕ) (at : ℕ) (value : List ℕ) (i : ℕ) → SameWord text at value i → Agree text at value i (i + 4)
word_agrees text at value i same k low high = go (k - i) (omega arith)
  where
    shown : (d : ℕ) → k ≡ i + d → slice_index text (at + i + d) ≡ slice_index value (i + d) → slice_index text (at + k) ≡ slice_index value k
    shown d e is =
        let f : at + k ≡ at + i + d = omega arith in
        ap (slice_index text) f ∙ is ∙ ap (slice_index value) (sym e)

    go : (d : ℕ) → k ≡ i + d → slice_index text (at + k) ≡ slice_index value k
    go zero e =
        let f : at + i + 0 ≡ at + i = omega arith in
        let g : i ≡ i + 0 = omega arith in
        shown 0 e (ap (slice_index text) f ∙ same.0 ∙ ap (slice_index value) g)
    go (suc zero) e = shown 1 e same.1
    go (suc (suc zero)) e = shown 2 e same.2
    go (suc (suc (suc zero))) e = shown 3 e same.3
    go (suc (suc (suc (suc d)))) e = absurd (omega (arith, e, high))

agree_word : (text : List ℕ) (at : ℕ) (value : List ℕ) (i : ℕ) → Agree text at value i (i + 4) → SameWord text at value i
agree_word text at value i agree = (
  agree i (omega arith) (omega arith),
  there 1 (omega arith),
  there 2 (omega arith),
  there 3 (omega arith),
)
  where
    there : (d : ℕ) → d < 4 → slice_index text (at + i + d) ≡ slice_index value (i + d)
    there d small =
        let e : at + i + d ≡ at + (i + d) = omega arith in
        ap (slice_index text) e ∙ agree (i + d) (omega arith) (omega arith)

tests_same_word : (image : List ℕ) (place : ℕ) (text : List ℕ) (at : ℕ) (value : List ℕ) (i : ℕ) → Lies image place text → AreBytes text → AreBytes value → at + i + 4 ≤ length text → Tests image (At place) (Agree text at value i (i + 4)) (same_word at value i)
tests_same_word image place text at value i lies are bytes inside =
    let there = at + i in
    let w : ℕ = four (slice_index text there) (slice_index text (there + 1)) (slice_index text (there + 2)) (slice_index text (there + 3)) in
    let k : ℕ = four (slice_index value i) (slice_index value (i + 1)) (slice_index value (i + 2)) (slice_index value (i + 3)) in
    tests_same image (At place) _ _ (same_word at value i) (
      λ e. word_agrees text at value i (four_same (slice_index text there) _ _ _ (slice_index value i) _ _ _ (are (there + 1)) (are (there + 2)) (are (there + 3)) (bytes (i + 1)) (bytes (i + 2)) (bytes (i + 3)) (eqb-true w k e)),
      λ agree. let each = agree_word text at value i agree in eq-eqb w k (rw (each.0, each.1, each.2, each.3) refl),
    ) (tests_indexed image place Word there w Equal k (loads_word image place text there lies inside))

pub extends_words : (at : ℕ) (value : List ℕ) (n : ℕ) → Extends (same_words at value n)
extends_words at value zero = extends_none
extends_words at value (suc n) =
    extends_then (same_words at value n) (same_word at value (4 * n)) (extends_words at value n) (extends_word at value (4 * n))

-- one word more
agree_more : (text : List ℕ) (at : ℕ) (value : List ℕ) (from middle to : ℕ) → from ≤ middle → middle ≤ to → (Agree text at value from middle × Agree text at value middle to) ↔ Agree text at value from to
agree_more text at value from middle to low high = (
  λ both i above below. elim (cases_lt i middle) [
    | inl less ↦ both.0 i above less
    | inr more ↦ both.1 i more below
  ],
  λ all. (λ i above below. all i above (omega arith), λ i above below. all i (omega arith) below),
)

tests_same_words : (image : List ℕ) (place : ℕ) (text : List ℕ) (at : ℕ) (value : List ℕ) (n : ℕ) → Lies image place text → AreBytes text → AreBytes value → at + 4 * n ≤ length text → Tests image (At place) (Agree text at value 0 (4 * n)) (same_words at value n)
tests_same_words image place text at value zero lies are bytes inside =
    tests_none image (At place) (Agree text at value 0 (4 * zero)) (λ i low high. absurd (omega (arith, high)))
tests_same_words image place text at value (suc n) lies are bytes inside =
    let front : Agree text at value 0 (4 * n) × Agree text at value (4 * n) (4 * suc n) ↔ Agree text at value 0 (4 * suc n) = agree_more text at value 0 (4 * n) (4 * suc n) (omega arith) (omega arith) in
    let e : 4 * n + 4 ≡ 4 * suc n = omega arith in
    tests_same image (At place) _ _ (same_words at value (suc n)) (
      λ both. front.0 (both.0, subst (λ (to : ℕ). Agree text at value (4 * n) to) e both.1),
      λ all. let parts = front.1 all in (parts.0, subst (λ (to : ℕ). Agree text at value (4 * n) to) (sym e) parts.1),
    ) (tests_both image (At place) _ _ (same_words at value n) (same_word at value (4 * n)) (tests_same_words image place text at value n lies are bytes (omega (arith, inside))) (tests_same_word image place text at value (4 * n) lies are bytes (omega (arith, inside))))

-- ---- the piece that compares all bytes of a value

pub extends_same_bytes : (at : ℕ) (value : List ℕ) → Extends (same_bytes at value)
extends_same_bytes at [] = extends_none
extends_same_bytes at (a ∷ []) = extends_test (load_indexed Byte at) Equal a
extends_same_bytes at (a ∷ b ∷ []) = extends_test (load_indexed Half at) Equal (half_number a b)
extends_same_bytes at (a ∷ b ∷ c ∷ []) =
    extends_then (λ rest. load_indexed Half at ∷ want Equal (half_number a b) rest) (λ rest. load_indexed Byte (at + 2) ∷ want Equal c rest) (extends_test (load_indexed Half at) Equal (half_number a b)) (extends_test (load_indexed Byte (at + 2)) Equal c)
extends_same_bytes at (a ∷ b ∷ c ∷ d ∷ more) =
    let value = a ∷ b ∷ c ∷ d ∷ more in
    extends_then (same_word at value (length more)) (same_words at value ((length more + 3) / 4)) (extends_word at value (length more)) (extends_words at value ((length more + 3) / 4))

-- the last four bytes of a value, and words that have those before
tests_many : (image : List ℕ) (place : ℕ) (text : List ℕ) (at : ℕ) (value : List ℕ) (last n : ℕ) → Lies image place text → AreBytes text → AreBytes value → last + 4 ≡ length value → last ≤ 4 * n → 4 * n ≤ length value → at + length value ≤ length text → Tests image (At place) (Stands text at value) (λ rest. same_word at value last (same_words at value n rest))
tests_many image place text at value last n lies are bytes is enough few inside =
    tests_same image (At place) (Agree text at value last (last + 4) × Agree text at value 0 (4 * n)) (Stands text at value) (λ rest. same_word at value last (same_words at value n rest)) (
      λ both. agree_stands text at value inside (λ i low high. elim (cases_lt i (4 * n)) [
        | inl less ↦ both.1 i low less
        | inr more ↦ both.0 i (omega arith) (omega arith)
      ]),
      λ stands. let all = stands_agree text at value stands in (λ i low high. all i (omega arith) (omega arith), λ i low high. all i low (omega arith)),
    ) (tests_both image (At place) (Agree text at value last (last + 4)) (Agree text at value 0 (4 * n)) (same_word at value last) (same_words at value n) (tests_same_word image place text at value last lies are bytes (omega arith)) (tests_same_words image place text at value n lies are bytes (omega arith)))

-- The bytes of a text that lies where X points to are those of a value, from a place of the text on.
pub tests_same_bytes : (image : List ℕ) (place : ℕ) (text : List ℕ) (at : ℕ) (value : List ℕ) → Lies image place text → AreBytes text → AreBytes value → at + length value ≤ length text → Tests image (λ x. x ≡ place) ((rest : List ℕ) × (drop at text ≡ value ++ rest)) (same_bytes at value)
tests_same_bytes image place text at [] lies are bytes inside =
    tests_none image (At place) (Stands text at []) (stands_none text at)
tests_same_bytes image place text at (a ∷ []) lies are bytes inside =
    let same = stands_more text at a [] (omega arith) in
    tests_same image (At place) _ _ (same_bytes at (a ∷ [])) (λ e. same.0 (e, stands_none text (at + 1)), λ stands. (same.1 stands).0) (tests_byte image place text at a lies (omega arith))
tests_same_bytes image place text at (a ∷ b ∷ []) lies are bytes inside =
    let same = stands_two text at a b [] (omega arith) in
    tests_same image (At place) _ _ (same_bytes at (a ∷ b ∷ [])) (λ both. same.0 (both, stands_none text (at + 2)), λ stands. (same.1 stands).0) (tests_two image place text at a b lies are (bytes 1) (omega arith))
tests_same_bytes image place text at (a ∷ b ∷ c ∷ []) lies are bytes inside =
    let same = stands_two text at a b (c ∷ []) (omega arith) in
    let last = stands_more text (at + 2) c [] (omega arith) in
    tests_same image (At place) _ _ (same_bytes at (a ∷ b ∷ c ∷ [])) (
      λ both. same.0 (both.0, last.0 (both.1, stands_none text (at + 2 + 1))),
      λ stands. let x = same.1 stands in (x.0, (last.1 x.1).0),
    ) (tests_then image (At place) _ _ (λ rest. load_indexed Half at ∷ want Equal (half_number a b) rest) (λ rest. load_indexed Byte (at + 2) ∷ want Equal c rest) (tests_two image place text at a b lies are (bytes 1) (omega arith)) (extends_test (load_indexed Byte (at + 2)) Equal c) (λ _. tests_byte image place text (at + 2) c lies (omega arith)))
tests_same_bytes image place text at (a ∷ b ∷ c ∷ d ∷ more) lies are bytes inside =
    tests_many image place text at (a ∷ b ∷ c ∷ d ∷ more) (length more) ((length more + 3) / 4) lies are bytes (omega arith) (omega arith) (omega arith) inside
