-- Unique names are bus names (D-Bus Specification, "Valid Names").
use Rattle.std.proofs.Common.{◌≡◌, ℕ, ◌+◌, ◌<◌, ◌≤◌, ◌^◌, ◌%◌, Bool, true, false, List, [], ◌∷◌, ◌++◌, length, ◌||◌, refl, arith, le-leb}
use Rattle.std.proofs.lemmas.Bool.{ne_eqb}
use Rattle.std.specs.Prelude.{codes, decimal, nat_eq}
use Rattle.std.specs.List.{list_all, slice_split}
use Rattle.std.proofs.lemmas.Fmt.{decimal_by_steps, length-decimal-le, decimal_nonempty}
use Rattle.signature.specs.Name.{is_digit, is_letter, may_begin, may_follow, is_element, unique_form, is_bus_name}

-- a text of digits
abbrev AreDigits : List ℕ → Type 0
AreDigits [] = Unit {0}
AreDigits (d ∷ ds) = (48 ≤ d) × (d ≤ 57) × AreDigits ds

and_one_more : (ds : List ℕ) (d : ℕ) → AreDigits ds → 48 ≤ d → d ≤ 57 → AreDigits (ds ++ d ∷ [])
and_one_more [] d h low high = (low, high, tt)
and_one_more (e ∷ ds) d h low high = (h.0, h.1, and_one_more ds d h.2 low high)

are_digits : (n : ℕ) → n < 2 ^ 64 → AreDigits (decimal n)
are_digits = decimal_by_steps (λ m ds. AreDigits ds) (λ m l. (omega arith, omega arith, tt)) (λ m ds l h. and_one_more ds (48 + m % 10) h (omega arith) (omega arith))

is_digit-true : (d : ℕ) → 48 ≤ d → d ≤ 57 → is_digit d ≡ true
is_digit-true d low high = rw (le-leb 48 d low, le-leb d 57 high) refl

or_left : (a b : Bool) → b ≡ true → (a || b) ≡ true
or_left true b h = refl
or_left false b h = h

or_right : (a b : Bool) → a ≡ true → (a || b) ≡ true
or_right a b h = rw h refl

may_follow-digit : (d : ℕ) → 48 ≤ d → d ≤ 57 → may_follow unique_form d ≡ true
may_follow-digit d low high = or_right (is_letter d || is_digit d) _ (or_left (is_letter d) (is_digit d) (is_digit-true d low high))

may_begin-digit : (d : ℕ) → 48 ≤ d → d ≤ 57 → may_begin unique_form d ≡ true
may_begin-digit d low high = or_right (is_letter d || is_digit d) _ (or_left (is_letter d) (is_digit d) (is_digit-true d low high))

all_follow : (ds : List ℕ) → AreDigits ds → list_all (may_follow unique_form) ds ≡ true
all_follow [] h = refl
all_follow (d ∷ ds) h = rw (may_follow-digit d h.0 h.1, all_follow ds h.2) refl

one_part : (ds : List ℕ) → AreDigits ds → slice_split (λ b. nat_eq b 46) ds ≡ ds ∷ []
one_part [] h = refl
one_part (d ∷ ds) h = rw (ne_eqb d 46 (λ e. omega (arith, h.0, h.1)), one_part ds h.2) refl

element : (ds : List ℕ) → AreDigits ds → 0 < length ds → is_element unique_form ds ≡ true
element [] h some = absurd (omega arith)
element (d ∷ ds) h some = rw (may_begin-digit d h.0 h.1, all_follow ds h.2) refl

pub unique_name-is_bus_name : (n : ℕ) → n < 2 ^ 64 → is_bus_name (codes ":1." ++ decimal n) ≡ true
unique_name-is_bus_name n small =
    let ds : List ℕ = decimal n in
    let h : AreDigits ds = are_digits n small in
    let short : length ds ≤ 20 = length-decimal-le 20 n (omega arith) (omega arith) small in
    rw (le-leb (length (codes ":1." ++ ds)) 255 (omega arith), one_part ds h, element ds h (decimal_nonempty n small)) refl
