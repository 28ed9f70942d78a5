-- What a comparison of bits says of the integers that they are.
use Rattle.std.proofs.Common.{◌≡◌, ℕ, ◌-◌, ◌<◌, ◌≤◌, Bool, true, false, ◌↔◌, inl, inr, refl, ap, arith}
use Rattle.std.specs.Prelude.{nat_lt}
use Rattle.std.proofs.lemmas.Bool.{false≢true, true≢false, cases_Bool, ltb-true, ltb-false, lt-ltb}
use Rattle.bpf_code.specs.declared.operation.Test.{Test}
use Rattle.bpf_code.specs.declared.operation.Test.TheVariants.{Equal, Above, AtLeast, SharesBit}
use Rattle.filter.specs.declared.integer.Integer.{Integer}
use Rattle.filter.specs.declared.integer.Integer.TheVariants.{Natural, Negative}
use Rattle.filter.specs.declared.test.NumberRelation.{NumberRelation}
use Rattle.filter.specs.declared.test.NumberRelation.TheVariants as numbers
use Rattle.filter_compile.specs.Holds.{Says, is_less, shares, NumberRelates}
use Rattle.filter_compile.specs.TestCode.{comparison_of, equality_of}
use Rattle.filter_compile.proofs.Ladders.{Ordered}

-- what a comparison says of a number and an integer
abbrev pub Compared : Test → ℕ × Integer → Integer → Type 0
Compared Equal found value = found.1 ≡ value
Compared Above found value = is_less value found.1 ≡ true
Compared AtLeast found value = is_less found.1 value ≡ false
Compared SharesBit found value = shares found.0 value ≡ true

not_false : (b : Bool) → (b ≡ false → ⊥) ↔ (b ≡ true)
not_false true = (λ _. refl, λ _ e. true≢false e)
not_false false = (λ n. absurd (n refl), λ e. absurd (false≢true e))

pub not_true : (b : Bool) → (b ≡ true → ⊥) ↔ (b ≡ false)
not_true true = (λ n. absurd (n refl), λ e. absurd (true≢false e))
not_true false = (λ _. refl, λ _ e. false≢true e)

pub relation_says : (relation : NumberRelation) (found : ℕ × Integer) (value : Integer) → Says (equality_of relation) (Compared (comparison_of relation) found value) ↔ NumberRelates relation found value
relation_says numbers.Equal found value = (λ e. e, λ e. e)
relation_says numbers.Unequal found value = (λ e. e, λ e. e)
relation_says numbers.Less found value = not_false (is_less found.1 value)
relation_says numbers.AtMost found value = not_true (is_less value found.1)
relation_says numbers.Greater found value = (λ e. e, λ e. e)
relation_says numbers.AtLeast found value = (λ e. e, λ e. e)
relation_says numbers.Shares found value = (λ e. e, λ e. e)

-- a comparison of integers, and none of bits
abbrev pub IsOrder : Test → Type 0
IsOrder SharesBit = ⊥
IsOrder test = Unit {0}

pub less_false : (a b : ℕ) → (nat_lt a b ≡ false) ↔ (b ≤ a)
less_false a b = (
  λ e. ltb-false a b e,
  λ le. elim (cases_Bool (nat_lt a b)) [ inl less ↦ absurd (let h = ltb-true a b less in omega arith) | inr other ↦ other ],
)

-- two integers from 0 on
pub naturals : (test : Test) (bits n v : ℕ) → IsOrder test → Ordered test n v ↔ Compared test (bits, Natural n) (Natural v)
naturals Equal bits n v order = (λ e. ap Natural e, λ e. cc)
naturals Above bits n v order = (lt-ltb v n, ltb-true v n)
naturals AtLeast bits n v order = let l = less_false n v in (l.1, l.0)
naturals SharesBit bits n v order = absurd order

-- two below 0, by their bits
pub negatives : (test : Test) (bits n m w : ℕ) → IsOrder test → n < w → m < w → Ordered test n (w - 1 - m) ↔ Compared test (bits, Negative (w - 1 - n)) (Negative m)
negatives Equal bits n m w order small fits = (
  λ e. let f : w - 1 - n ≡ m = omega arith in ap Negative f,
  λ e. let f : w - 1 - n ≡ m = cc in omega arith,
)
negatives Above bits n m w order small fits = (
  λ less. lt-ltb (w - 1 - n) m (omega arith),
  λ e. let l = ltb-true (w - 1 - n) m e in omega arith,
)
negatives AtLeast bits n m w order small fits = (
  λ le. (less_false m (w - 1 - n)).1 (omega arith),
  λ e. let l = (less_false m (w - 1 - n)).0 e in omega arith,
)
negatives SharesBit bits n m w order small fits = absurd order

-- what a comparison with an integer that is above, or below, gives
abbrev pub Outside : Test → Integer → Type 0 → Type 0
Outside Equal value C = C → ⊥
Outside test (Natural v) C = C → ⊥
Outside test (Negative m) C = C

-- an integer above a number from 0 on, and one below it
pub natural_outside : (test : Test) (bits n v : ℕ) → IsOrder test → n < v → Outside test (Natural v) (Compared test (bits, Natural n) (Natural v))
natural_outside Equal bits n v order less = λ e. let f : n ≡ v = cc in omega (arith, f, less)
natural_outside Above bits n v order less = λ e. let l = ltb-true v n e in omega (arith, l, less)
natural_outside AtLeast bits n v order less = λ e. let l = (less_false n v).0 e in omega (arith, l, less)
natural_outside SharesBit bits n v order less = absurd order

pub natural_below : (test : Test) (bits n m : ℕ) → IsOrder test → Outside test (Negative m) (Compared test (bits, Natural n) (Negative m))
natural_below Equal bits n m order = λ e. cc
natural_below Above bits n m order = refl
natural_below AtLeast bits n m order = refl
natural_below SharesBit bits n m order = absurd order

-- a number below 0 beside one from 0 on
pub negative_outside : (test : Test) (bits a v : ℕ) → IsOrder test → Compared test (bits, Negative a) (Natural v) → ⊥
negative_outside Equal bits a v order e = cc
negative_outside Above bits a v order e = false≢true e
negative_outside AtLeast bits a v order e = true≢false e
negative_outside SharesBit bits a v order e = order

-- and beside one that is further below
pub negative_below : (test : Test) (bits a m : ℕ) → IsOrder test → a < m → Outside test (Negative m) (Compared test (bits, Negative a) (Negative m))
negative_below Equal bits a m order less = λ e. let f : a ≡ m = cc in omega (arith, f, less)
negative_below Above bits a m order less = lt-ltb a m less
negative_below AtLeast bits a m order less = (less_false m a).1 (omega (arith, less))
negative_below SharesBit bits a m order less = absurd order
