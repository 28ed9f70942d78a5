-- What the pieces test that look for a bit that two numbers share, digit by digit.
use Rattle.std.proofs.Common.{◌≡◌, ℕ, zero, suc, ◌+◌, ◌/◌, ◌%◌, ◌^◌, ◌<◌, ◌≤◌, true, not, List, Some, ◌⊎◌, ◌↔◌, inl, inr, refl, sym, ap, ◌∙◌, arith, eqb}
use Rattle.std.specs.Prelude.{bit_and}
use Rattle.std.specs.Int.{byte_at}
use Rattle.std.proofs.lemmas.Bool.{true≢false, cases_eq, eq-eqb, ne_eqb}
use Rattle.std.proofs.lemmas.Nat.{and_shr, and_mod}
use Rattle.bpf_code.specs.declared.operation.Test.TheVariants.{SharesBit}
use Rattle.bpf_code.specs.declared.operation.Width.{Width}
use Rattle.bpf_code.specs.declared.operation.Width.TheVariants.{Word, Byte}
use Rattle.bpf_code.specs.Loads.{load}
use Rattle.rule_compile.proofs.Bytes.{At}
use Rattle.filter_compile.specs.ArgCode.{rung, ladder, wide}
use Rattle.filter_compile.specs.Pieces.{Piece, indexed_test}
use Rattle.filter_compile.proofs.TwoExits.{Extends, extends_indexed, Tests, tests_same, tests_else, tests_indexed}
use Rattle.filter_compile.proofs.HighBytes.{high, byte_high}
use Rattle.filter_compile.proofs.Ladders.{extends_ladder}

-- they share one
abbrev pub Share : ℕ → ℕ → Type 0
Share n k = bit_and n k ≡ 0 → ⊥

pub shares_word : (n k : ℕ) → (not (eqb (bit_and n k) 0) ≡ true) ↔ Share n k
shares_word n k = (
  λ e none. true≢false (sym e ∙ ap not (eq-eqb (bit_and n k) 0 none)),
  λ share. ap not (ne_eqb (bit_and n k) 0 share),
)

-- one digit
pub tests_shared_one : (image : List ℕ) (place : ℕ) (width : Width) (at d k : ℕ) → load width image (place + at) ≡ Some d → Tests image (At place) (Share d k) (indexed_test width at SharesBit k)
tests_shared_one image place width at d k is =
    tests_same image (At place) _ (Share d k) (indexed_test width at SharesBit k) (shares_word d k) (tests_indexed image place width at d SharesBit k is)

-- a digit that decides alone, or leaves it to the lower ones
pub tests_shared_rung : (image : List ℕ) (place : ℕ) (width : Width) (at d e : ℕ) (P : Type 0) (f : Piece) → load width image (place + at) ≡ Some d → Extends f → (Share d e → P) → (bit_and d e ≡ 0 → Tests image (At place) P f) → Tests image (At place) P (rung SharesBit width at e f)
tests_shared_rung image place width at d e P f is extends here t =
    tests_same image (At place) (Share d e ⊎ ((bit_and d e ≡ 0) × P)) P (rung SharesBit width at e f) (
      λ one. elim one [ inl share ↦ here share | inr each ↦ each.1 ],
      λ p. elim (cases_eq (bit_and d e) 0) [ inl none ↦ inr (none, p) | inr share ↦ inl share ],
    ) (tests_else image (At place) (Share d e) ((bit_and d e ≡ 0) × P) (indexed_test width at SharesBit e) f (tests_shared_one image place width at d e is) extends (λ n. elim (cases_eq (bit_and d e) 0) [
      | inl none ↦ tests_same image (At place) P _ f (λ p. (none, p), λ each. each.1) (t none)
      | inr share ↦ absurd (n share)
    ]))

high_and : (j n k : ℕ) → bit_and (high j n) (high j k) ≡ high j (bit_and n k)
high_and zero n k = refl
high_and (suc j) n k = sym (and_shr (high j n) (high j k) 8) ∙ ap (λ (x : ℕ). x / 256) (high_and j n k)

high_none : (j n : ℕ) → n ≡ 0 → high j n ≡ 0
high_none zero n e = e
high_none (suc j) n e = let h = high_none j n e in omega (arith, h)

byte_and : (j n k : ℕ) → j < 8 → bit_and (byte_at j n) (byte_at j k) ≡ high j (bit_and n k) % 256
byte_and j n k small =
    ap (λ (a : ℕ). bit_and a (byte_at j k)) (byte_high j n small) ∙ ap (bit_and (high j n % 256)) (byte_high j k small) ∙ sym (and_mod (high j n) (high j k) 8) ∙ ap (λ (x : ℕ). x % 256) (high_and j n k)

pub tests_shared_ladder : (image : List ℕ) (place n k j : ℕ) → j < 8 → ((i : ℕ) → i ≤ j → load Byte image (place + i) ≡ Some (byte_at i n)) → high (suc j) (bit_and n k) ≡ 0 → Tests image (At place) (Share n k) (ladder SharesBit k j)
tests_shared_ladder image place n k zero small loads none =
    let b = byte_and 0 n k small in
    tests_same image (At place) (Share (byte_at 0 n) (byte_at 0 k)) (Share n k) (ladder SharesBit k 0) (
      λ share e. share (omega (arith, b, e)),
      λ share e. share (omega (arith, b, e, none)),
    ) (tests_shared_one image place Byte 0 (byte_at 0 n) (byte_at 0 k) (loads 0 (omega arith)))
tests_shared_ladder image place n k (suc j) small loads none =
    let b = byte_and (suc j) n k small in
    tests_shared_rung image place Byte (suc j) (byte_at (suc j) n) (byte_at (suc j) k) (Share n k) (ladder SharesBit k j) (loads (suc j) (omega arith)) (extends_ladder SharesBit k j) (λ share e. share (let h = high_none (suc j) (bit_and n k) e in omega (arith, b, h))) (λ e.
    tests_shared_ladder image place n k j (omega (arith, small)) (λ i few. loads i (omega (arith, few))) (omega (arith, b, e, none)))

pub tests_shared_wide : (image : List ℕ) (place n k : ℕ) → bit_and n k < 2 ^ 64 → load Word image (place + 0) ≡ Some (n / 2 ^ 32) → load Word image (place + 4) ≡ Some (n % 2 ^ 32) → Tests image (At place) (Share n k) (wide SharesBit k)
tests_shared_wide image place n k small first second =
    let high = and_shr n k 32 in
    let low = and_mod n k 32 in
    tests_shared_rung image place Word 0 (n / 2 ^ 32) (k / 2 ^ 32) (Share n k) (indexed_test Word 4 SharesBit (k % 2 ^ 32)) first (extends_indexed Word 4 SharesBit (k % 2 ^ 32)) (λ share e. share (omega (arith, high, e))) (λ none.
    tests_same image (At place) (Share (n % 2 ^ 32) (k % 2 ^ 32)) (Share n k) (indexed_test Word 4 SharesBit (k % 2 ^ 32)) (
      λ share e. share (omega (arith, low, e)),
      λ share e. share (omega (arith, low, high, e, none)),
    ) (tests_shared_one image place Word 4 (n % 2 ^ 32) (k % 2 ^ 32) second))
