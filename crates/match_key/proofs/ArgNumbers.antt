-- The numbers of arguments go up to the greatest, and one alone is 0.
use Rattle.std.proofs.Common.{◌≡◌, ◌+◌, ◌*◌, ◌≤◌, ◌&&◌, eqb, refl, arith, subst}
use Rattle.std.proofs.lemmas.Bool.Decides.{nat_tests}
use Rattle.match_key.specs.declared.arg_number.Octal.{Octal}
use Rattle.match_key.specs.declared.arg_number.Octal.TheVariants.{Zero, One, Two, Three, Four, Five, Six, Seven}
use Rattle.match_key.specs.declared.arg_number.ArgNumber.{ArgNumber}
use Rattle.match_key.specs.contracts.arg_number.OctalPartialEq.TheImpl as octals
use Rattle.match_key.specs.contracts.arg_number.ArgNumberPartialEq.TheImpl as numbers
use Rattle.match_key.specs.ArgNumber.{octal_value, number_of_arg, first_arg, max_arg}

octal_small : (d : Octal) → octal_value d ≤ 7
octal_small Zero = omega arith
octal_small One = omega arith
octal_small Two = omega arith
octal_small Three = omega arith
octal_small Four = omega arith
octal_small Five = omega arith
octal_small Six = omega arith
octal_small Seven = omega arith

pub number_small : (n : ArgNumber) → number_of_arg n ≤ max_arg
number_small n = let eights = octal_small n.eights in let ones = octal_small n.ones in omega arith

octal_zero : (d : Octal) → octal_value d ≡ 0 → d ≡ Zero
octal_zero Zero e = refl
octal_zero _ e = absurd (omega arith)

pub first_alone : (n : ArgNumber) → number_of_arg n ≡ 0 → n ≡ first_arg
first_alone n e =
    subst (λ (d : Octal). n ≡ record { eights = d; ones = Zero }) (octal_zero n.eights (omega arith))
    (subst (λ (d : Octal). n ≡ record { eights = n.eights; ones = d }) (octal_zero n.ones (omega arith)) refl)

-- `==` beside argument 0
pub is_first : (n : ArgNumber) → (numbers.ghosts).eq n first_arg ≡ eqb (number_of_arg n) 0
is_first n = go n.eights n.ones
  where
    go : (high low : Octal) → (octals.ghosts).eq high Zero && (octals.ghosts).eq low Zero ≡ eqb (8 * octal_value high + octal_value low) 0
    go Zero Zero = refl
    go Zero _ = refl
    go _ low = grind (arith, nat_tests)
