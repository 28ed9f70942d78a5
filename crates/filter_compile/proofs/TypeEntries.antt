-- The ways of the types: an argument's integer is compared from the entry of its type on.
use Rattle.std.proofs.Common.{◌≡◌, ℕ, ◌+◌, ◌-◌, ◌*◌, ◌<◌, ◌≤◌, Bool, true, false, List, length, Some, ◌↔◌, inl, inr, refl, sym, ap, ◌∙◌, arith, subst}
use Rattle.std.specs.Prelude.{nat_lt, if◌then◌else◌}
use Rattle.std.proofs.lemmas.Bool.{false≢true, cases_Bool, ltb-true, ltb-false, lt-ltb, leb-true, le-leb}
use Rattle.bpf_code.specs.Loads.{load}
use Rattle.bpf_code.specs.declared.instruction.Ins.{Ins}
use Rattle.bpf_code.specs.declared.operation.Test.{Test}
use Rattle.bpf_code.specs.declared.operation.Test.TheVariants.{Equal, AtLeast, SharesBit}
use Rattle.bpf_code.specs.declared.operation.Width.TheVariants as widths
use Rattle.rule_compile.proofs.Bytes.{At}
use Rattle.filter.specs.declared.integer.Integer.{Integer}
use Rattle.filter.specs.declared.integer.Integer.TheVariants.{Natural, Negative}
use Rattle.filter.specs.declared.test.Equality.{Equality}
use Rattle.filter.specs.declared.test.Equality.TheVariants as equalities
use Rattle.filter_compile.specs.ArgCode.{limit_of, is_inside, outside, way, sign_ways, sign_step}
use Rattle.filter_compile.specs.Holds.{Says, is_signed_code}
use Rattle.filter_compile.specs.Pieces.{indexed_test}
use Rattle.filter_compile.specs.TestCode.{exits_for}
use Rattle.filter_compile.specs.declared.exits.Exits.{Exits}
use Rattle.filter_compile.proofs.Entries.{Decides, decides_on, decides_same, decides_true, decides_false, decides_test}
use Rattle.filter_compile.proofs.Ladders.{Ordered}
use Rattle.filter_compile.proofs.TwoExits.{Before, tests_same, tests_indexed}
use Rattle.filter_compile.proofs.TypeIntegers.{Compared, IsOrder, naturals, negatives, Outside, natural_outside, natural_below, negative_outside, negative_below}

-- so or not so
pub decides_says : (image : List ℕ) (X : ℕ → Type 0) (base : List Ins) (exits : Exits) (code : List Ins) (entry : ℕ) (equality : Equality) (C : Type 0) → Decides image X base (exits_for equality exits) code entry C → Decides image X base exits code entry (Says equality C)
decides_says image X base exits code entry equalities.Equal C d = d
decides_says image X base exits code entry equalities.Unequal C d = record {
  decided = elim d.decided [ inl c ↦ inr (λ n. n c) | inr n ↦ inl n ];
  holds = λ v leads n. d.fails v leads n;
  fails = λ v leads n. elim d.decided [ inl c ↦ d.holds v leads c | inr none ↦ absurd (n none) ];
}

module _ (image : List ℕ) (place : ℕ) (base : List Ins) (exits : Exits) where
  -- a fact is decided from an entry of a code on
  abbrev pub From : List Ins → ℕ → Type 0 → Type 0
  From code entry C = Decides image (At place) base exits code entry C

  -- a code in front of the base
  abbrev pub Upon : List Ins → Type 0
  Upon code = Before base code

  pub from_true : (code : List Ins) (C : Type 0) → Upon code → C → From code exits.holds C
  from_true code C upon c = decides_on image (At place) base exits base code exits.holds C upon (decides_true image (At place) base exits C c)

  pub from_false : (code : List Ins) (C : Type 0) → Upon code → (C → ⊥) → From code exits.fails C
  from_false code C upon none = decides_on image (At place) base exits base code exits.fails C upon (decides_false image (At place) base exits C none)

  from_outside : (test : Test) (value : Integer) (code : List Ins) (C : Type 0) → Upon code → Outside test value C → From code (outside test value exits) C
  from_outside Equal value code C upon none = from_false code C upon none
  from_outside _ (Natural v) code C upon none = from_false code C upon none
  from_outside _ (Negative m) code C upon c = from_true code C upon c

  way_of : (test : Test) (kind : ℕ) (value : Integer) (entry : ℕ) → IsOrder test → (if is_inside kind value then entry else outside test value exits) ≡ way test kind value exits entry
  way_of SharesBit kind value entry order = absurd order
  way_of _ kind value entry order = refl

  -- the way of a type: by its entry where it has the integer, else outside
  pub from_way : (test : Test) (kind : ℕ) (value : Integer) (code : List Ins) (entry : ℕ) (C : Type 0) → IsOrder test → Upon code → (is_inside kind value ≡ true → From code entry C) → (is_inside kind value ≡ false → Outside test value C) → From code (way test kind value exits entry) C
  from_way test kind value code entry C order upon inside out =
      subst (λ (e : ℕ). From code e C) (way_of test kind value entry order) (go (is_inside kind value) refl)
    where
      go : (b : Bool) → is_inside kind value ≡ b → From code (if b then entry else outside test value exits) C
      go true is = inside is
      go false is = from_outside test value code C upon (out is)

  -- ---- types without a sign

  pub from_unsigned : (test : Test) (kind w n : ℕ) (value : Integer) (code : List Ins) (entry : ℕ) → IsOrder test → Upon code → is_signed_code kind ≡ false → limit_of kind ≡ w → n < w → ((v : ℕ) → value ≡ Natural v → v < w → From code entry (Ordered test n v)) → From code (way test kind value exits entry) (Compared test (n, Natural n) value)
  from_unsigned test kind w n (Natural v) code entry order upon plain limit small from =
      from_way test kind (Natural v) code entry (Compared test (n, Natural n) (Natural v)) order upon
      (λ inside. decides_same image (At place) base exits code entry (Ordered test n v) _ (naturals test n n v order) (from v refl (let l = ltb-true v (limit_of kind) inside in omega (arith, l, limit))))
      (λ out. natural_outside test n n v order (let l = ltb-false v (limit_of kind) out in omega (arith, l, limit, small)))
  from_unsigned test kind w n (Negative m) code entry order upon plain limit small from =
      from_way test kind (Negative m) code entry (Compared test (n, Natural n) (Negative m)) order upon (λ inside. absurd (false≢true (sym (none_inside m) ∙ inside))) (λ out. natural_below test n n m order)
    where
      none_inside : (m : ℕ) → is_inside kind (Negative m) ≡ false
      none_inside m = rw plain refl

  -- ---- types with one

  -- the integer of bits
  abbrev pub signed_integer : ℕ → ℕ → Integer
  signed_integer h n = if nat_lt n h then Natural n else Negative (2 * h - 1 - n)

  -- by the entry of its bits alone, for equality
  pub same_signed : (h n : ℕ) (value : Integer) (code : List Ins) (entry k : ℕ) → n < 2 * h → From code entry (n ≡ k) → ((v : ℕ) → value ≡ Natural v → (v < h) × (k ≡ v)) → ((m : ℕ) → value ≡ Negative m → (m < h) × (k ≡ 2 * h - 1 - m)) → From code entry (signed_integer h n ≡ value)
  same_signed h n (Natural v) code entry k small d natural negative =
      let f = natural v refl in
      decides_same image (At place) base exits code entry (n ≡ k) (signed_integer h n ≡ Natural v) (go (nat_lt n h) refl f.0 f.1) d
    where
      go : (b : Bool) → nat_lt n h ≡ b → v < h → k ≡ v → (n ≡ k) ↔ ((if b then Natural n else Negative (2 * h - 1 - n)) ≡ Natural v)
      go true is less same = (λ e. ap Natural (e ∙ same), λ e. let f : n ≡ v = cc in f ∙ sym same)
      go false is less same = (λ e. absurd (let l = ltb-false n h is in omega (arith, l, e, same, less)), λ e. absurd cc)
  same_signed h n (Negative m) code entry k small d natural negative =
      let f = negative m refl in
      decides_same image (At place) base exits code entry (n ≡ k) (signed_integer h n ≡ Negative m) (go (nat_lt n h) refl f.0 f.1) d
    where
      go : (b : Bool) → nat_lt n h ≡ b → m < h → k ≡ 2 * h - 1 - m → (n ≡ k) ↔ ((if b then Natural n else Negative (2 * h - 1 - n)) ≡ Negative m)
      go true is less same = (λ e. absurd (let l = ltb-true n h is in omega (arith, l, e, same, less)), λ e. absurd cc)
      go false is less same = (λ e. let f : 2 * h - 1 - n ≡ m = omega (arith, e, same, less, small) in ap Negative f, λ e. let f : 2 * h - 1 - n ≡ m = cc in omega (arith, f, same, less, small))

  low_integer : (h n : ℕ) → n < h → signed_integer h n ≡ Natural n
  low_integer h n less = rw (lt-ltb n h less) refl

  high_integer : (h n : ℕ) → h ≤ n → signed_integer h n ≡ Negative (2 * h - 1 - n)
  high_integer h n le = elim (cases_Bool (nat_lt n h)) [
    | inl less ↦ absurd (let l = ltb-true n h less in omega (arith, l, le))
    | inr other ↦ rw other refl
  ]

  -- a comparison with an integer in place of the bits' one
  with_integer : (test : Test) (n : ℕ) (i j value : Integer) (code : List Ins) (entry : ℕ) → i ≡ j → From code entry (Compared test (n, j) value) → From code entry (Compared test (n, i) value)
  with_integer test n i j value code entry e d = subst (λ (k : Integer). From code entry (Compared test (n, k) value)) (sym e) d

  -- where a number below 0 is beside an integer from 0 on, nothing holds; where one from 0 on is beside one below 0, an order does
  beside : (test : Test) (h n : ℕ) (value : Integer) (code : List Ins) (entry k at top : ℕ) → IsOrder test → (test ≡ Equal → ⊥) → Upon code → n < 2 * h → load widths.Byte image (place + at) ≡ Some top → ((128 ≤ top) ↔ (h ≤ n)) → From code entry (Ordered test n k) → ((v : ℕ) → value ≡ Natural v → (v < h) × (k ≡ v)) → ((m : ℕ) → value ≡ Negative m → (m < h) × (k ≡ 2 * h - 1 - m)) → From (indexed_test widths.Byte at AtLeast 128 (sign_ways value exits entry) code) (length (indexed_test widths.Byte at AtLeast 128 (sign_ways value exits entry) code)) (Compared test (n, signed_integer h n) value)
  beside test h n (Natural v) code entry k at top order unequal upon small loads sign d natural negative =
      let f = natural v refl in
      let t = tests_same image (At place) _ (h ≤ n) (indexed_test widths.Byte at AtLeast 128) (λ e. sign.0 (leb-true 128 top e), λ le. le-leb 128 top (sign.1 le)) (tests_indexed image place widths.Byte at top AtLeast 128 loads) in
      decides_test image (At place) base exits code (h ≤ n) (Compared test (n, signed_integer h n) (Natural v)) (indexed_test widths.Byte at AtLeast 128) (sign_ways (Natural v) exits entry) t
      (λ le. from_false code (Compared test (n, signed_integer h n) (Natural v)) upon (λ c. negative_outside test n (2 * h - 1 - n) v order (subst (λ (i : Integer). Compared test (n, i) (Natural v)) (high_integer h n le) c)))
      (λ no. with_integer test n (signed_integer h n) (Natural n) (Natural v) code entry (low_integer h n (omega (arith, no))) (decides_same image (At place) base exits code entry (Ordered test n k) _ (rw f.1 (naturals test n n v order)) d))
  beside test h n (Negative m) code entry k at top order unequal upon small loads sign d natural negative =
      let f = negative m refl in
      let t = tests_same image (At place) _ (h ≤ n) (indexed_test widths.Byte at AtLeast 128) (λ e. sign.0 (leb-true 128 top e), λ le. le-leb 128 top (sign.1 le)) (tests_indexed image place widths.Byte at top AtLeast 128 loads) in
      decides_test image (At place) base exits code (h ≤ n) (Compared test (n, signed_integer h n) (Negative m)) (indexed_test widths.Byte at AtLeast 128) (sign_ways (Negative m) exits entry) t
      (λ le. with_integer test n (signed_integer h n) (Negative (2 * h - 1 - n)) (Negative m) code entry (high_integer h n le) (decides_same image (At place) base exits code entry (Ordered test n k) _ (rw f.1 (negatives test n n m (2 * h) order small (omega (arith, f.0)))) d))
      (λ no. from_true code (Compared test (n, signed_integer h n) (Negative m)) upon (subst (λ (i : Integer). Compared test (n, i) (Negative m)) (sym (low_integer h n (omega (arith, no)))) (below_holds test n m order unequal)))
    where
      below_holds : (test : Test) (n m : ℕ) → IsOrder test → (test ≡ Equal → ⊥) → Compared test (n, Natural n) (Negative m)
      below_holds Equal n m order unequal = absurd (unequal refl)
      below_holds SharesBit n m order unequal = absurd order
      below_holds _ n m order unequal = refl

  -- after its sign, where that is looked at
  pub from_sign : (test : Test) (h n : ℕ) (value : Integer) (code : List Ins) (entry k at top : ℕ) → IsOrder test → Upon code → n < 2 * h → load widths.Byte image (place + at) ≡ Some top → ((128 ≤ top) ↔ (h ≤ n)) → From code entry (Ordered test n k) → ((v : ℕ) → value ≡ Natural v → (v < h) × (k ≡ v)) → ((m : ℕ) → value ≡ Negative m → (m < h) × (k ≡ 2 * h - 1 - m)) → From (sign_step test value at exits entry code).code (sign_step test value at exits entry code).entry (Compared test (n, signed_integer h n) value)
  from_sign Equal h n value code entry k at top order upon small loads sign d natural negative = same_signed h n value code entry k small d natural negative
  from_sign SharesBit h n value code entry k at top order upon small loads sign d natural negative = absurd order
  from_sign test h n value code entry k at top order upon small loads sign d natural negative = beside test h n value code entry k at top order (λ e. cc) upon small loads sign d natural negative

  outside_none : (test : Test) (v : ℕ) (C : Type 0) → (C → ⊥) → Outside test (Natural v) C
  outside_none Equal v C none = none
  outside_none _ v C none = none

  -- what a comparison gives of a signed type that hasn't the integer
  pub signed_outside : (test : Test) (h n : ℕ) (value : Integer) → IsOrder test → n < 2 * h → ((v : ℕ) → value ≡ Natural v → h ≤ v) → ((m : ℕ) → value ≡ Negative m → h ≤ m) → Outside test value (Compared test (n, signed_integer h n) value)
  signed_outside test h n (Natural v) order small natural negative = elim (cases_Bool (nat_lt n h)) [
    | inl less ↦ (let l = ltb-true n h less in subst (λ (i : Integer). Outside test (Natural v) (Compared test (n, i) (Natural v))) (sym (low_integer h n l)) (natural_outside test n n v order (let f = natural v refl in omega arith)))
    | inr more ↦ (let l = ltb-false n h more in subst (λ (i : Integer). Outside test (Natural v) (Compared test (n, i) (Natural v))) (sym (high_integer h n l)) (outside_none test v _ (negative_outside test n (2 * h - 1 - n) v order)))
  ]
  signed_outside test h n (Negative m) order small natural negative = elim (cases_Bool (nat_lt n h)) [
    | inl less ↦ (let l = ltb-true n h less in subst (λ (i : Integer). Outside test (Negative m) (Compared test (n, i) (Negative m))) (sym (low_integer h n l)) (natural_below test n n m order))
    | inr more ↦ (let l = ltb-false n h more in subst (λ (i : Integer). Outside test (Negative m) (Compared test (n, i) (Negative m))) (sym (high_integer h n l)) (negative_below test n (2 * h - 1 - n) m order (let f = negative m refl in omega arith)))
  ]
