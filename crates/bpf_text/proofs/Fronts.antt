-- Which byte follows leading blanks, and so which token.
use Rattle.std.proofs.Common.{◌≡◌, ℕ, suc, ◌+◌, Bool, true, false, ◌&&◌, ◌||◌, not, cond, List, [], ◌∷◌, length, take, drop, Option, Some, None, refl, sym, ap, ◌∙◌, arith, ◌⊎◌, inl, inr}
use Rattle.std.specs.Prelude.{◌==◌, nat_lt, slice_index}
use Rattle.std.specs.Char.{digit_value}
use Rattle.std.specs.List.{prefix_len, list_all}
use Rattle.std.proofs.lemmas.Bool.{eqb-true, false_from_ne_true, and_parts}
use Rattle.std.proofs.lemmas.Bool.Decides.{nat_tests}
use Rattle.std.proofs.lemmas.Option.{option_and_then_some, cond_some}
use Rattle.bpf_text.specs.Lexis.{is_digit, is_name_byte, unblanked, run_of, number_in, number_of, word_at, number_at, sign_at, is_over}

pub none_unless : {T : Type 0} (o : Option T) → ((x : T) → o ≡ Some x → ⊥) → o ≡ None
none_unless None h = refl
none_unless (Some x) h = absurd (h x refl)

pub or_left : (a b : Bool) → (a || b) ≡ false → a ≡ false
or_left true b h = h
or_left false b h = refl

pub or_right : (a b : Bool) → (a || b) ≡ false → b ≡ false
or_right true b h = absurd (cc)
or_right false b h = h

cond_none : {A : Type 0} (b : Bool) (x y : A) → cond b None (Some x) ≡ Some y → (b ≡ false)
cond_none true x y h = absurd (cc)
cond_none false x y h = refl

-- the first byte after leading blanks
abbrev pub first : List ℕ → ℕ
first bytes = slice_index (unblanked bytes) 0

-- ---- a single character

pub sign_first : (c : ℕ) (bytes rest : List ℕ) → sign_at c bytes ≡ Some rest → first bytes ≡ c
unfolding sign_at
sign_first c bytes rest h =
    let test = (cond_some (not (length (unblanked bytes) == 0) && first bytes == c) (drop 1 (unblanked bytes)) rest h).0 in
    eqb-true _ _ (and_parts (not (length (unblanked bytes) == 0)) (first bytes == c) test).1

pub sign_some : (c : ℕ) (bytes rest : List ℕ) → sign_at c bytes ≡ Some rest → length (unblanked bytes) == 0 ≡ false
unfolding sign_at
sign_some c bytes rest h =
    let test = (cond_some (not (length (unblanked bytes) == 0) && first bytes == c) (drop 1 (unblanked bytes)) rest h).0 in
    negated (length (unblanked bytes) == 0) (and_parts (not (length (unblanked bytes) == 0)) (first bytes == c) test).0
  where
    negated : (b : Bool) → not b ≡ true → b ≡ false
    negated true h = absurd (cc)
    negated false h = refl

pub some_length : (b : ℕ) (u : List ℕ) → length (b ∷ u) == 0 ≡ false
some_length b u = false_from_ne_true (length (b ∷ u) == 0) (λ e. let none : length (b ∷ u) ≡ 0 = eqb-true (length (b ∷ u)) 0 e in omega arith)

-- ---- a word

run_first : (b : ℕ) (u : List ℕ) (q : Bool) → (length (take (cond q (1 + prefix_len is_name_byte u) 0) (b ∷ u)) == 0 || is_digit b) ≡ false → q ≡ true
run_first b u true h = refl
run_first b u false h = absurd (cc)

word_front : (u : List ℕ) → (length (run_of u) == 0 || is_digit (slice_index u 0)) ≡ false → (is_name_byte (slice_index u 0) ≡ true) × (length u == 0 ≡ false)
unfolding run_of
word_front [] h = absurd (cc)
word_front (b ∷ u) h = (run_first b u (is_name_byte b) h, some_length b u)

word_test : (bytes : List ℕ) (x : List ℕ × List ℕ) → word_at bytes ≡ Some x → (length (run_of (unblanked bytes)) == 0 || is_digit (first bytes)) ≡ false
unfolding word_at
word_test bytes x h = cond_none _ _ x h

pub word_first : (bytes : List ℕ) (x : List ℕ × List ℕ) → word_at bytes ≡ Some x → is_name_byte (first bytes) ≡ true
word_first bytes x h = (word_front (unblanked bytes) (word_test bytes x h)).0

pub word_some : (bytes : List ℕ) (x : List ℕ × List ℕ) → word_at bytes ≡ Some x → length (unblanked bytes) == 0 ≡ false
word_some bytes x h = (word_front (unblanked bytes) (word_test bytes x h)).1

pub word_no_digit : (bytes : List ℕ) (x : List ℕ × List ℕ) → word_at bytes ≡ Some x → is_digit (first bytes) ≡ false
word_no_digit bytes x h = or_right (length (run_of (unblanked bytes)) == 0) (is_digit (first bytes)) (word_test bytes x h)

-- ---- a number

small_digit : (b : ℕ) → nat_lt (digit_value b) 10 ≡ true → is_digit b ≡ true
small_digit b h = grind (arith, nat_tests)

zero_digit : (b : ℕ) (test : Bool) → (b == 48 && test) ≡ true → is_digit b ≡ true
zero_digit b test h = let e : b ≡ 48 = eqb-true b 48 (and_parts (b == 48) test h).0 in rw e

all_first : (p : ℕ → Bool) (run : List ℕ) (test : Bool) → ((not (length run == 0) && list_all p run) && test) ≡ true → p (slice_index run 0) ≡ true
all_first p [] test h = absurd (cc)
all_first p (b ∷ run) test h =
    (and_parts (p b) (list_all p run) (and_parts (not (length (b ∷ run) == 0)) (list_all p (b ∷ run)) (and_parts (not (length (b ∷ run) == 0) && list_all p (b ∷ run)) test h).0).1).0

in_first : (run : List ℕ) (n : ℕ) → number_in 10 run ≡ Some n → is_digit (slice_index run 0) ≡ true
unfolding number_in
in_first run n h = small_digit (slice_index run 0) (all_first (λ d. nat_lt (digit_value d) 10) run _ (cond_some _ _ n h).0)

by_first : (run : List ℕ) (b : Bool) (n : ℕ) (o : Option ℕ) → ((b ≡ true) → is_digit (slice_index run 0) ≡ true) → cond b o (number_in 10 run) ≡ Some n → is_digit (slice_index run 0) ≡ true
by_first run true n o hex h = hex refl
by_first run false n o hex h = in_first run n h

number_of_first : (run : List ℕ) (n : ℕ) → number_of run ≡ Some n → is_digit (slice_index run 0) ≡ true
number_of_first run n h =
    by_first run (slice_index run 0 == 48 && slice_index run 1 == 120) n (number_in 16 (drop 2 run)) (zero_digit (slice_index run 0) (slice_index run 1 == 120)) h

run_front : (b : ℕ) (u : List ℕ) (q : Bool) → is_digit (slice_index (take (cond q (1 + prefix_len is_name_byte u) 0) (b ∷ u)) 0) ≡ true → is_digit b ≡ true
run_front b u true h = let e : 1 + prefix_len is_name_byte u ≡ suc (prefix_len is_name_byte u) = omega arith in rw e at h
run_front b u false h = absurd (cc)

number_front : (u : List ℕ) → is_digit (slice_index (run_of u) 0) ≡ true → (is_digit (slice_index u 0) ≡ true) × (length u == 0 ≡ false)
unfolding run_of
number_front [] h = absurd (cc)
number_front (b ∷ u) h = (run_front b u (is_name_byte b) h, some_length b u)

number_test : (bytes : List ℕ) (x : ℕ × List ℕ) → number_at bytes ≡ Some x → is_digit (slice_index (run_of (unblanked bytes)) 0) ≡ true
unfolding number_at
number_test bytes x h = option_and_then_some _ (number_of (run_of (unblanked bytes))) x h (λ n is _. number_of_first (run_of (unblanked bytes)) n is)

pub number_first : (bytes : List ℕ) (x : ℕ × List ℕ) → number_at bytes ≡ Some x → is_digit (first bytes) ≡ true
number_first bytes x h = (number_front (unblanked bytes) (number_test bytes x h)).0

pub number_some : (bytes : List ℕ) (x : ℕ × List ℕ) → number_at bytes ≡ Some x → length (unblanked bytes) == 0 ≡ false
number_some bytes x h = (number_front (unblanked bytes) (number_test bytes x h)).1

-- ---- the end

over_by : (b t a : Bool) → cond b true (t && a) ≡ true → (b ≡ true) ⊎ (t ≡ true)
over_by true t a h = inl refl
over_by false t a h = inr (and_parts t a h).0

pub over_first : (bytes : List ℕ) → is_over bytes ≡ true → (length (unblanked bytes) == 0 ≡ true) ⊎ (first bytes ≡ 59)
unfolding is_over
over_first bytes h = elim (over_by (length (unblanked bytes) == 0) (first bytes == 59) (list_all (λ b. nat_lt b 128) (unblanked bytes)) h) [ inl none ↦ inl none | inr here ↦ inr (eqb-true (first bytes) 59 here) ]

pub both_ways : (b : Bool) → b ≡ true → b ≡ false → ⊥
both_ways b p q = cc

-- ---- no other token

pub sign_no_sign : (c d : ℕ) (bytes rest : List ℕ) → (c ≡ d → ⊥) → sign_at c bytes ≡ Some rest → sign_at d bytes ≡ None
sign_no_sign c d bytes rest apart h = none_unless (sign_at d bytes) (λ x is. apart (sym (sign_first c bytes rest h) ∙ sign_first d bytes x is))

pub word_no_sign : (d : ℕ) (bytes : List ℕ) (x : List ℕ × List ℕ) → is_name_byte d ≡ false → word_at bytes ≡ Some x → sign_at d bytes ≡ None
word_no_sign d bytes x apart h = none_unless (sign_at d bytes) (λ r is. both_ways (is_name_byte d) (ap is_name_byte (sym (sign_first d bytes r is)) ∙ word_first bytes x h) apart)

pub number_no_sign : (d : ℕ) (bytes : List ℕ) (x : ℕ × List ℕ) → is_digit d ≡ false → number_at bytes ≡ Some x → sign_at d bytes ≡ None
number_no_sign d bytes x apart h = none_unless (sign_at d bytes) (λ r is. both_ways (is_digit d) (ap is_digit (sym (sign_first d bytes r is)) ∙ number_first bytes x h) apart)

pub word_no_number : (bytes : List ℕ) (x : List ℕ × List ℕ) → word_at bytes ≡ Some x → number_at bytes ≡ None
word_no_number bytes x h = none_unless (number_at bytes) (λ n is. both_ways (is_digit (first bytes)) (number_first bytes n is) (word_no_digit bytes x h))

pub over_no_sign : (d : ℕ) (bytes : List ℕ) → (d ≡ 59 → ⊥) → is_over bytes ≡ true → sign_at d bytes ≡ None
over_no_sign d bytes apart h = none_unless (sign_at d bytes) (λ r is. elim (over_first bytes h) [
  | inl none ↦ both_ways (length (unblanked bytes) == 0) none (sign_some d bytes r is)
  | inr here ↦ apart (sym (sign_first d bytes r is) ∙ here)
])

pub sign_not_over : (d : ℕ) (bytes rest : List ℕ) → (d ≡ 59 → ⊥) → sign_at d bytes ≡ Some rest → is_over bytes ≡ false
sign_not_over d bytes rest apart h = false_from_ne_true (is_over bytes) (λ over. both_none (sign_at d bytes) rest (over_no_sign d bytes apart over) h)
  where
    both_none : (o : Option (List ℕ)) (r : List ℕ) → o ≡ None → o ≡ Some r → ⊥
    both_none o r p q = cc

pub word_not_over : (bytes : List ℕ) (x : List ℕ × List ℕ) → word_at bytes ≡ Some x → is_over bytes ≡ false
word_not_over bytes x h = false_from_ne_true (is_over bytes) (λ over. elim (over_first bytes over) [
  | inl none ↦ both_ways (length (unblanked bytes) == 0) none (word_some bytes x h)
  | inr here ↦ both_ways (is_name_byte (first bytes)) (word_first bytes x h) (ap is_name_byte here)
])

pub number_not_over : (bytes : List ℕ) (x : ℕ × List ℕ) → number_at bytes ≡ Some x → is_over bytes ≡ false
number_not_over bytes x h = false_from_ne_true (is_over bytes) (λ over. elim (over_first bytes over) [
  | inl none ↦ both_ways (length (unblanked bytes) == 0) none (number_some bytes x h)
  | inr here ↦ both_ways (is_digit (first bytes)) (number_first bytes x h) (ap is_digit here)
])
