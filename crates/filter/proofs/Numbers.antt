-- The number that digits write, digit by digit.
use Rattle.std.proofs.Common.{◌≡◌, ℕ, ◌+◌, ◌*◌, ◌^◌, ◌<◌, ◌≤◌, Bool, true, false, ◌&&◌, List, [], ◌∷◌, Option, Some, None, refl, arith}
use Rattle.std.specs.Prelude.{nat_lt, if◌then◌else◌}
use Rattle.std.specs.Char.{digit_value}
use Rattle.std.specs.Str.Parse.{digits_value_after}
use Rattle.std.specs.List.{list_all}
use Rattle.filter.specs.Integers.{with_digit_of}
use borrow.Author.Tests.{lt-ltb}
use Rattle.std.proofs.Math.Nat.{mul-le-mul_left}
use Rattle.std.proofs.lemmas.Bool.Decides.{nat_tests}

-- the number that digits write when they follow the digits of another number
abbrev pub number_after : ℕ → ℕ → List ℕ → Option ℕ
number_after base number digits =
    if list_all (λ d. nat_lt (digit_value d) base) digits && nat_lt (digits_value_after base number digits) (2 ^ 64)
    then Some (digits_value_after base number digits) else None

above : (base number v total : ℕ) → 0 < base → number * base + v ≤ total → number ≤ total
above base number v total some h = omega (arith, mul-le-mul_left number some)

grows : (base number : ℕ) (digits : List ℕ) → 0 < base → number ≤ digits_value_after base number digits
grows base number [] some = omega arith
grows base number (d ∷ ds) some =
    above base number (digit_value d) (digits_value_after base (number * base + digit_value d) ds) some (grows base (number * base + digit_value d) ds some)

both : (b c : Bool) (x m : ℕ) → (if b && c then Some x else None) ≡ Some m → (b ≡ true) × (x ≡ m)
both true true x m h = (refl, cc)
both true false x m h = absurd (cc)
both false c x m h = absurd (cc)

-- a digit that fits is passed over
pub passes : (base number d m : ℕ) (ds : List ℕ) → with_digit_of base number d ≡ Some m → number_after base number (d ∷ ds) ≡ number_after base m ds
passes base number d m ds h =
    let digit : nat_lt (digit_value d) base ≡ true = (both (nat_lt (digit_value d) base) (nat_lt (number * base + digit_value d) (2 ^ 64)) (number * base + digit_value d) m h).0 in
    let same : number * base + digit_value d ≡ m = (both (nat_lt (digit_value d) base) (nat_lt (number * base + digit_value d) (2 ^ 64)) (number * base + digit_value d) m h).1 in
    rw (digit, same)

none_of : (b l t c : Bool) (x y : ℕ) → (if b && c then Some x else None) ≡ None → (c ≡ false → t ≡ false) → (if (b && l) && t then Some y else None) ≡ None
none_of false l t c x y h later = refl
none_of true l t true x y h later = absurd (cc)
none_of true true t false x y h later = rw (later refl)
none_of true false t false x y h later = refl

too_large : (n m : ℕ) → n ≤ m → nat_lt n (2 ^ 64) ≡ false → nat_lt m (2 ^ 64) ≡ false
too_large n m h e = grind (arith, nat_tests)

-- one that doesn't ends the reading
pub stops : (base number d : ℕ) (ds : List ℕ) → 0 < base → with_digit_of base number d ≡ None → number_after base number (d ∷ ds) ≡ None
stops base number d ds some h =
    none_of (nat_lt (digit_value d) base) (list_all (λ c. nat_lt (digit_value c) base) ds) (nat_lt (digits_value_after base (number * base + digit_value d) ds) (2 ^ 64)) (nat_lt (number * base + digit_value d) (2 ^ 64)) (number * base + digit_value d) (digits_value_after base (number * base + digit_value d) ds) h
    (too_large _ _ (grows base (number * base + digit_value d) ds some))

-- the number where no digits follow
pub ends : (base number : ℕ) → number < 2 ^ 64 → number_after base number [] ≡ Some number
ends base number fits = rw (lt-ltb number (2 ^ 64) fits)
