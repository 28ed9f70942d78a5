-- The entries of numbers of one, two, four and eight bytes: from each of them on the number is compared.
use Rattle.std.proofs.Common.{◌≡◌, ℕ, zero, suc, ◌+◌, ◌/◌, ◌%◌, ◌^◌, ◌<◌, ◌≤◌, List, [], ◌∷◌, length, Some, ◌↔◌, refl, sym, ap, ◌∙◌, arith, subst}
use Rattle.std.specs.Prelude.{bit_and}
use Rattle.std.specs.Int.{byte_at, bytes_low_first}
use Rattle.std.proofs.lemmas.Nat.{and_le_l, and_mod}
use Rattle.bpf_code.specs.Loads.{load}
use Rattle.bpf_code.specs.declared.instruction.Ins.{Ins}
use Rattle.bpf_code.specs.declared.operation.Test.{Test}
use Rattle.bpf_code.specs.declared.operation.Test.TheVariants.{Equal, SharesBit}
use Rattle.bpf_code.specs.declared.operation.Width.{Width}
use Rattle.bpf_code.specs.declared.operation.Width.TheVariants.{Word, Half, Byte}
use Rattle.rule_compile.proofs.Bytes.{At}
use Rattle.summary.specs.Shown.{Lies}
use Rattle.filter_compile.specs.ArgCode.{rung_code, rung, ladder, wide}
use Rattle.filter_compile.specs.Pieces.{Piece, indexed_test}
use Rattle.filter_compile.specs.declared.exits.Exits.{Exits}
use Rattle.filter_compile.proofs.Entries.{Decides}
use Rattle.filter_compile.proofs.HighBytes.{high}
use Rattle.filter_compile.proofs.Ladders.{Ordered, tests_ladder, tests_wide, tests_lowest}
use Rattle.filter_compile.proofs.NumberLoads.{little_loads}
use Rattle.filter_compile.proofs.SharedBits.{Share, tests_shared_ladder, tests_shared_wide, tests_shared_one}
use Rattle.filter_compile.proofs.TwoExits.{Before, joined, leads_here, leads_on, Tests, tests_same}
use Rattle.filter_compile.proofs.TypeIntegers.{IsOrder}

no_order : (test : Test) → IsOrder test → test ≡ SharesBit → ⊥
no_order SharesBit order e = order
no_order _ order e = cc

-- a piece in front of a code
pub decides_piece : (image : List ℕ) (X : ℕ → Type 0) (base : List Ins) (exits : Exits) (code : List Ins) (C : Type 0) (f : Piece) → Before base code → Tests image X C f → Decides image X base exits (f exits code) (length (f exits code)) C
decides_piece image X base exits code C f before t = record {
  decided = t.decided;
  holds = λ v leads c. leads_here (f exits code) image X v (t.holds exits code v (leads_on code base exits.holds image X v before leads) c);
  fails = λ v leads n. leads_here (f exits code) image X v (t.fails exits code v (leads_on code base exits.fails image X v before leads) n);
}

-- ---- the same lowest bytes

-- of a number that has lost its higher bytes
lower_byte : (i k : ℕ) → i < 8 → byte_at i (k % 2 ^ 64) ≡ byte_at i k
lower_byte zero k small = omega arith
lower_byte (suc zero) k small = omega arith
lower_byte (suc (suc zero)) k small = omega arith
lower_byte (suc (suc (suc zero))) k small = omega arith
lower_byte (suc (suc (suc (suc zero)))) k small = omega arith
lower_byte (suc (suc (suc (suc (suc zero))))) k small = omega arith
lower_byte (suc (suc (suc (suc (suc (suc zero)))))) k small = omega arith
lower_byte (suc (suc (suc (suc (suc (suc (suc zero))))))) k small = omega arith
lower_byte (suc (suc (suc (suc (suc (suc (suc (suc i)))))))) k small = absurd (omega (arith, small))

lower_of_four : (i k : ℕ) → i < 4 → byte_at i (k % 2 ^ 32) ≡ byte_at i k
lower_of_four zero k small = omega arith
lower_of_four (suc zero) k small = omega arith
lower_of_four (suc (suc zero)) k small = omega arith
lower_of_four (suc (suc (suc zero))) k small = omega arith
lower_of_four (suc (suc (suc (suc i)))) k small = absurd (omega (arith, small))

lower_of_two : (i k : ℕ) → i < 2 → byte_at i (k % 2 ^ 16) ≡ byte_at i k
lower_of_two zero k small = omega arith
lower_of_two (suc zero) k small = omega arith
lower_of_two (suc (suc i)) k small = absurd (omega (arith, small))

lower_of_one : (i k : ℕ) → i < 1 → byte_at i (k % 2 ^ 8) ≡ byte_at i k
lower_of_one zero k small = omega arith
lower_of_one (suc i) k small = absurd (omega (arith, small))

same_ladder : (test : Test) (a b j : ℕ) → ((i : ℕ) → i ≤ j → byte_at i a ≡ byte_at i b) → ladder test a j ≡ ladder test b j
same_ladder test a b zero same = ap (λ (key : ℕ). indexed_test Byte 0 test key) (same 0 (omega arith))
same_ladder test a b (suc j) same =
    ap (λ (key : ℕ). rung test Byte (suc j) key (ladder test a j)) (same (suc j) (omega arith))
    ∙ ap (λ (f : Piece). rung test Byte (suc j) (byte_at (suc j) b) f) (same_ladder test a b j (λ i few. same i (omega (arith, few))))

-- ---- in a message of type `l`

module _ (image : List ℕ) (place : ℕ) (test : Test) (order : IsOrder test) where
  -- a number of j + 1 bytes, and as many of another
  little : (n k low j : ℕ) → j < 8 → Lies image place (bytes_low_first 0 (suc j) n) → ((i : ℕ) → i ≤ j → byte_at i low ≡ byte_at i k) → high (suc j) n ≡ 0 → high (suc j) low ≡ 0 → Tests image (At place) (Ordered test n low) (ladder test k j)
  little n k low j small lies same none low_none =
      subst (λ (f : Piece). Tests image (At place) (Ordered test n low) f) (same_ladder test low k j same)
      (tests_ladder test image place n low j small (no_order test order) (λ i few. little_loads image place (suc j) n i lies (omega (arith, few))) (none ∙ sym low_none))

  pub little_one : (n k : ℕ) → Lies image place (bytes_low_first 0 1 n) → n < 2 ^ 8 → Tests image (At place) (Ordered test n (k % 2 ^ 8)) (ladder test k 0)
  little_one n k lies small = little n k (k % 2 ^ 8) 0 (omega arith) lies (λ i few. lower_of_one i k (omega (arith, few))) (omega (arith, small)) (omega arith)

  pub little_two : (n k : ℕ) → Lies image place (bytes_low_first 0 2 n) → n < 2 ^ 16 → Tests image (At place) (Ordered test n (k % 2 ^ 16)) (ladder test k 1)
  little_two n k lies small = little n k (k % 2 ^ 16) 1 (omega arith) lies (λ i few. lower_of_two i k (omega (arith, few))) (omega (arith, small)) (omega arith)

  pub little_four : (n k : ℕ) → Lies image place (bytes_low_first 0 4 n) → n < 2 ^ 32 → Tests image (At place) (Ordered test n (k % 2 ^ 32)) (ladder test k 3)
  little_four n k lies small = little n k (k % 2 ^ 32) 3 (omega arith) lies (λ i few. lower_of_four i k (omega (arith, few))) (omega (arith, small)) (omega arith)

  pub little_eight : (n k : ℕ) → Lies image place (bytes_low_first 0 8 n) → n < 2 ^ 64 → Tests image (At place) (Ordered test n (k % 2 ^ 64)) (ladder test k 7)
  little_eight n k lies small = little n k (k % 2 ^ 64) 7 (omega arith) lies (λ i few. lower_byte i k (omega (arith, few))) (omega (arith, small)) (omega arith)

  -- ---- in one of type `B`

  pub big_size : (width : Width) (n k : ℕ) → load width image (place + 0) ≡ Some n → Tests image (At place) (Ordered test n k) (indexed_test width 0 test k)
  big_size width n k loads = tests_lowest test image place width 0 n k n k loads (λ e. e, λ e. e) (λ less. less, λ less. less) (no_order test order)

  pub big_eight : (n k : ℕ) → n < 2 ^ 64 → k < 2 ^ 64 → load Word image (place + 0) ≡ Some (n / 2 ^ 32) → load Word image (place + 4) ≡ Some (n % 2 ^ 32) → Tests image (At place) (Ordered test n k) (wide test k)
  big_eight n k small fits first second = tests_wide test image place n k small fits (no_order test order) first second

-- ---- bits that are shared

high_small : (j x y : ℕ) → x ≤ y → high j y ≡ 0 → high j x ≡ 0
high_small zero x y le none = omega (arith, le, none)
high_small (suc j) x y le none = go j x y le none
  where
    mono : (j x y : ℕ) → x ≤ y → high j x ≤ high j y
    mono zero x y le = le
    mono (suc j) x y le = let m = mono j x y le in omega (arith, m)

    go : (j x y : ℕ) → x ≤ y → high j y / 256 ≡ 0 → high j x / 256 ≡ 0
    go j x y le none = let m = mono j x y le in omega (arith, m, none)

pub little_shared : (image : List ℕ) (place n k j : ℕ) → j < 8 → Lies image place (bytes_low_first 0 (suc j) n) → high (suc j) n ≡ 0 → Tests image (At place) (Share n k) (ladder SharesBit k j)
little_shared image place n k j small lies none =
    tests_shared_ladder image place n k j small (λ i few. little_loads image place (suc j) n i lies (omega (arith, few))) (high_small (suc j) (bit_and n k) n (and_le_l n k) none)

-- the lowest bits alone
share_low : (n k w : ℕ) → n < 2 ^ w → n % 2 ^ w ≡ n → bit_and n k % 2 ^ w ≡ bit_and n k → Share n (k % 2 ^ w) ↔ Share n k
share_low n k w small e f =
    let same : bit_and n (k % 2 ^ w) ≡ bit_and n k = ap (λ (a : ℕ). bit_and a (k % 2 ^ w)) (sym e) ∙ sym (and_mod n k w) ∙ f in
    (λ share none. share (same ∙ none), λ share none. share (sym same ∙ none))

pub big_shared_four : (image : List ℕ) (place n k : ℕ) → n < 2 ^ 32 → load Word image (place + 0) ≡ Some n → Tests image (At place) (Share n k) (indexed_test Word 0 SharesBit (k % 2 ^ 32))
big_shared_four image place n k small loads =
    let l = and_le_l n k in
    tests_same image (At place) (Share n (k % 2 ^ 32)) (Share n k) (indexed_test Word 0 SharesBit (k % 2 ^ 32)) (share_low n k 32 small (omega (arith, small)) (omega (arith, small, l))) (tests_shared_one image place Word 0 n (k % 2 ^ 32) loads)

pub big_shared_two : (image : List ℕ) (place n k : ℕ) → n < 2 ^ 16 → load Half image (place + 0) ≡ Some n → Tests image (At place) (Share n k) (indexed_test Half 0 SharesBit (k % 2 ^ 16))
big_shared_two image place n k small loads =
    let l = and_le_l n k in
    tests_same image (At place) (Share n (k % 2 ^ 16)) (Share n k) (indexed_test Half 0 SharesBit (k % 2 ^ 16)) (share_low n k 16 small (omega (arith, small)) (omega (arith, small, l))) (tests_shared_one image place Half 0 n (k % 2 ^ 16) loads)

pub big_shared_eight : (image : List ℕ) (place n k : ℕ) → n < 2 ^ 64 → load Word image (place + 0) ≡ Some (n / 2 ^ 32) → load Word image (place + 4) ≡ Some (n % 2 ^ 32) → Tests image (At place) (Share n k) (wide SharesBit k)
big_shared_eight image place n k small first second =
    let l = and_le_l n k in tests_shared_wide image place n k (omega (arith, l, small)) first second

-- ---- codes grow

pub rung_grows : (test : Test) (width : Width) (at key : ℕ) (exits : Exits) (code : List Ins) → Before code (rung_code test width at key exits code)
rung_grows Equal width at key exits code = (_ ∷ _ ∷ [], refl)
rung_grows SharesBit width at key exits code = (_ ∷ _ ∷ [], refl)
rung_grows _ width at key exits code = (_ ∷ _ ∷ _ ∷ _ ∷ [], refl)

pub ladder_grows : (test : Test) (bits d j : ℕ) (exits : Exits) (rest : List Ins) → Before (ladder test bits j exits rest) (ladder test bits (d + j) exits rest)
ladder_grows test bits zero j exits rest = let e : 0 + j ≡ j = omega arith in ([], ap (λ (i : ℕ). ladder test bits i exits rest) e)
ladder_grows test bits (suc d) j exits rest =
    let e : suc d + j ≡ suc (d + j) = omega arith in
    let here = rung_grows test Byte (suc (d + j)) (byte_at (suc (d + j)) bits) exits (ladder test bits (d + j) exits rest) in
    let all = joined (ladder test bits j exits rest) (ladder test bits (d + j) exits rest) (ladder test bits (suc (d + j)) exits rest) here (ladder_grows test bits d j exits rest) in
    (all.0, ap (λ (i : ℕ). ladder test bits i exits rest) e ∙ all.1)
