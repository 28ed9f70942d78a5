-- What the pieces test that compare a number digit by digit, from the highest on.
use Rattle.std.proofs.Common.{◌≡◌, ℕ, zero, suc, ◌+◌, ◌/◌, ◌%◌, ◌^◌, ◌<◌, ◌≤◌, List, Some, ◌⊎◌, ◌↔◌, inl, inr, refl, sym, ap, ◌∙◌, arith}
use Rattle.std.specs.Int.{byte_at}
use Rattle.std.proofs.lemmas.Bool.{eqb-true, eq-eqb, ltb-true, lt-ltb, leb-true, le-leb, cases_eq, cases_lt}
use Rattle.bpf_code.specs.declared.operation.Test.{Test}
use Rattle.bpf_code.specs.declared.operation.Test.TheVariants.{Equal, Above, AtLeast, SharesBit}
use Rattle.bpf_code.specs.declared.operation.Width.{Width}
use Rattle.bpf_code.specs.declared.operation.Width.TheVariants.{Word, Byte}
use Rattle.bpf_code.specs.Loads.{load}
use Rattle.rule_compile.proofs.Bytes.{At}
use Rattle.filter_compile.specs.Pieces.{Piece, both, either, indexed_test}
use Rattle.filter_compile.specs.ArgCode.{rung, ladder, wide}
use Rattle.filter_compile.proofs.TwoExits.{Extends, extends_both, extends_either, extends_indexed, Tests, tests_same, tests_then, tests_else, tests_indexed}
use Rattle.filter_compile.proofs.HighBytes.{high, high_less, byte_decides, byte_high}

-- what an order, or equality, says of two numbers
abbrev pub Ordered : Test → ℕ → ℕ → Type 0
Ordered Equal n k = n ≡ k
Ordered Above n k = k < n
Ordered AtLeast n k = k ≤ n
Ordered SharesBit n k = ⊥

pub extends_rung : (test : Test) (width : Width) (at key : ℕ) (f : Piece) → Extends f → Extends (rung test width at key f)
extends_rung Equal width at key f extends = extends_both _ f (extends_indexed width at Equal key) extends
extends_rung SharesBit width at key f extends = extends_either _ f (extends_indexed width at SharesBit key) extends
extends_rung _ width at key f extends =
    extends_either (indexed_test width at Above key) (both (indexed_test width at Equal key) f) (extends_indexed width at Above key) (extends_both _ f (extends_indexed width at Equal key) extends)

-- a comparison of a digit
digit_is : (image : List ℕ) (place : ℕ) (width : Width) (at d k : ℕ) → load width image (place + at) ≡ Some d → Tests image (At place) (d ≡ k) (indexed_test width at Equal k)
digit_is image place width at d k is = tests_same image (At place) _ (d ≡ k) (indexed_test width at Equal k) (eqb-true d k, eq-eqb d k) (tests_indexed image place width at d Equal k is)

digit_above : (image : List ℕ) (place : ℕ) (width : Width) (at d k : ℕ) → load width image (place + at) ≡ Some d → Tests image (At place) (k < d) (indexed_test width at Above k)
digit_above image place width at d k is = tests_same image (At place) _ (k < d) (indexed_test width at Above k) (ltb-true k d, lt-ltb k d) (tests_indexed image place width at d Above k is)

digit_from : (image : List ℕ) (place : ℕ) (width : Width) (at d k : ℕ) → load width image (place + at) ≡ Some d → Tests image (At place) (k ≤ d) (indexed_test width at AtLeast k)
digit_from image place width at d k is = tests_same image (At place) _ (k ≤ d) (indexed_test width at AtLeast k) (leb-true k d, le-leb k d) (tests_indexed image place width at d AtLeast k is)

-- What a digit decides of a number, and what it leaves to the lower ones.
pub record Digit (n k d e : ℕ) : Type 0 where
  pub above : e < d → k < n
  pub below : d < e → n < k
  pub same : n ≡ k → d ≡ e

order_rung : (image : List ℕ) (place : ℕ) (width : Width) (at n k d e : ℕ) (P : Type 0) (f : Piece) → Digit n k d e → load width image (place + at) ≡ Some d → Extends f → (k < n → P) → (P → k ≤ n) → (d ≡ e → Tests image (At place) P f) → Tests image (At place) P (either (indexed_test width at Above e) (both (indexed_test width at Equal e) f))
order_rung image place width at n k d e P f digit is extends above within t =
    tests_same image (At place) ((e < d) ⊎ ((d ≡ e) × P)) P (either (indexed_test width at Above e) (both (indexed_test width at Equal e) f)) (
      λ one. elim one [ inl more ↦ above (digit.above more) | inr each ↦ each.1 ],
      λ p. elim (cases_eq d e) [
        | inl same ↦ inr (same, p)
        | inr other ↦ elim (cases_lt e d) [
          | inl more ↦ inl more
          | inr less ↦ absurd (let b = digit.below (omega (arith, other, less)) in let w = within p in omega arith)
        ]
      ],
    ) (tests_else image (At place) (e < d) ((d ≡ e) × P) (indexed_test width at Above e) (both (indexed_test width at Equal e) f) (digit_above image place width at d e is) (extends_both _ f (extends_indexed width at Equal e) extends) (λ _. tests_then image (At place) (d ≡ e) P (indexed_test width at Equal e) f (digit_is image place width at d e is) extends t))

-- a rung, where the lower digits are compared by a piece
pub tests_rung : (test : Test) (image : List ℕ) (place : ℕ) (width : Width) (at n k d e : ℕ) (f : Piece) → Digit n k d e → load width image (place + at) ≡ Some d → Extends f → (d ≡ e → Tests image (At place) (Ordered test n k) f) → (test ≡ SharesBit → ⊥) → Tests image (At place) (Ordered test n k) (rung test width at e f)
tests_rung Equal image place width at n k d e f digit is extends t order =
    tests_same image (At place) ((d ≡ e) × (n ≡ k)) (n ≡ k) (both (indexed_test width at Equal e) f) (λ each. each.1, λ same. (digit.same same, same)) (tests_then image (At place) (d ≡ e) (n ≡ k) (indexed_test width at Equal e) f (digit_is image place width at d e is) extends t)
tests_rung Above image place width at n k d e f digit is extends t order = order_rung image place width at n k d e (k < n) f digit is extends (λ less. less) (λ less. omega (arith, less)) t
tests_rung AtLeast image place width at n k d e f digit is extends t order = order_rung image place width at n k d e (k ≤ n) f digit is extends (λ less. omega (arith, less)) (λ less. less) t
tests_rung SharesBit image place width at n k d e f digit is extends t order = absurd (order refl)

-- the lowest digit
pub tests_lowest : (test : Test) (image : List ℕ) (place : ℕ) (width : Width) (at n k d e : ℕ) → load width image (place + at) ≡ Some d → (d ≡ e) ↔ (n ≡ k) → (e < d) ↔ (k < n) → (test ≡ SharesBit → ⊥) → Tests image (At place) (Ordered test n k) (indexed_test width at test e)
tests_lowest Equal image place width at n k d e is same less order = tests_same image (At place) (d ≡ e) (n ≡ k) (indexed_test width at Equal e) same (digit_is image place width at d e is)
tests_lowest Above image place width at n k d e is same less order = tests_same image (At place) (e < d) (k < n) (indexed_test width at Above e) less (digit_above image place width at d e is)
tests_lowest AtLeast image place width at n k d e is same less order =
    tests_same image (At place) (e ≤ d) (k ≤ n) (indexed_test width at AtLeast e) (
      λ le. elim (cases_eq d e) [ inl e ↦ (let f = same.0 e in omega arith) | inr other ↦ (let l = less.0 (omega arith) in omega arith) ],
      λ le. elim (cases_eq n k) [ inl e ↦ (let f = same.1 e in omega arith) | inr other ↦ (let l = less.1 (omega arith) in omega arith) ],
    ) (digit_from image place width at d e is)
tests_lowest SharesBit image place width at n k d e is same less order = absurd (order refl)

-- ---- bytes from the lowest on

pub extends_ladder : (test : Test) (bits j : ℕ) → Extends (ladder test bits j)
extends_ladder test bits zero = extends_indexed Byte 0 test (byte_at 0 bits)
extends_ladder test bits (suc j) = extends_rung test Byte (suc j) (byte_at (suc j) bits) (ladder test bits j) (extends_ladder test bits j)

-- a byte decides what is the same above it
byte_digit : (j n k : ℕ) → j < 8 → high (suc j) n ≡ high (suc j) k → Digit n k (byte_at j n) (byte_at j k)
byte_digit j n k small same =
    let a = byte_high j n small in
    let b = byte_high j k small in
    let x = high j n in
    let y = high j k in
    record {
      above = λ less. high_less j k n ((byte_decides x y same).0.0 (omega (arith, a, b, less)));
      below = λ less. high_less j n k ((byte_decides y x (sym same)).0.0 (omega (arith, a, b, less)));
      same = λ e. ap (byte_at j) e;
    }

same_below : (j n k : ℕ) → j < 8 → high (suc j) n ≡ high (suc j) k → byte_at j n ≡ byte_at j k → high j n ≡ high j k
same_below j n k small same e =
    (byte_decides (high j n) (high j k) same).1.0 (sym (byte_high j n small) ∙ e ∙ byte_high j k small)

pub tests_ladder : (test : Test) (image : List ℕ) (place n k j : ℕ) → j < 8 → (test ≡ SharesBit → ⊥) → ((i : ℕ) → i ≤ j → load Byte image (place + i) ≡ Some (byte_at i n)) → high (suc j) n ≡ high (suc j) k → Tests image (At place) (Ordered test n k) (ladder test k j)
tests_ladder test image place n k zero small order loads same =
    let d = byte_decides n k same in
    tests_lowest test image place Byte 0 n k (n % 256) (k % 256) (loads 0 (omega arith)) d.1 d.0 order
tests_ladder test image place n k (suc j) small order loads same =
    tests_rung test image place Byte (suc j) n k (byte_at (suc j) n) (byte_at (suc j) k) (ladder test k j) (byte_digit (suc j) n k small same) (loads (suc j) (omega arith)) (extends_ladder test k j) (λ e.
    tests_ladder test image place n k j (omega (arith, small)) order (λ i few. loads i (omega (arith, few))) (same_below (suc j) n k small same e)) order

-- ---- eight bytes as two words

pub tests_wide : (test : Test) (image : List ℕ) (place n k : ℕ) → n < 2 ^ 64 → k < 2 ^ 64 → (test ≡ SharesBit → ⊥) → load Word image (place + 0) ≡ Some (n / 2 ^ 32) → load Word image (place + 4) ≡ Some (n % 2 ^ 32) → Tests image (At place) (Ordered test n k) (wide test k)
tests_wide test image place n k small fits order first second =
    tests_rung test image place Word 0 n k (n / 2 ^ 32) (k / 2 ^ 32) (indexed_test Word 4 test (k % 2 ^ 32)) (record {
      above = λ less. omega (arith, less);
      below = λ less. omega (arith, less);
      same = λ e. ap (λ (m : ℕ). m / 2 ^ 32) e;
    }) first (extends_indexed Word 4 test (k % 2 ^ 32)) (λ e.
    tests_lowest test image place Word 4 n k (n % 2 ^ 32) (k % 2 ^ 32) second (λ same. omega (arith, e, same), λ same. omega (arith, same)) (λ less. omega (arith, e, less), λ less. omega (arith, e, less)) order) order
