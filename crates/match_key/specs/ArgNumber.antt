-- The numbers of arguments that a rule may ask for (D-Bus Specification, "Match Rules"), as two digits in base 8.
use Rattle.std.specs.Prelude.{ℕ, ◌+◌, ◌*◌, ◌/◌, ◌%◌, ◌==◌, if◌then◌else◌}
use Rattle.match_key.specs.declared.arg_number.Octal.{Octal}
use Rattle.match_key.specs.declared.arg_number.Octal.TheVariants.{Zero, One, Two, Three, Four, Five, Six, Seven}
use Rattle.match_key.specs.declared.arg_number.ArgNumber.{ArgNumber}

-- the number that a digit stands for
abbrev pub octal_value : Octal → ℕ
octal_value Zero = 0
octal_value One = 1
octal_value Two = 2
octal_value Three = 3
octal_value Four = 4
octal_value Five = 5
octal_value Six = 6
octal_value Seven = 7

-- the digit of a number below 8
abbrev pub octal_of : ℕ → Octal
octal_of n =
    if n == 0 then Zero else if n == 1 then One else if n == 2 then Two else if n == 3 then Three
    else if n == 4 then Four else if n == 5 then Five else if n == 6 then Six else Seven

-- the greatest number
abbrev pub max_arg : ℕ
max_arg = 63

-- which argument it is, counted from 0
abbrev pub number_of_arg : ArgNumber → ℕ
number_of_arg n = 8 * octal_value n.eights + octal_value n.ones

-- the argument of a number up to the greatest
abbrev pub arg_of_number : ℕ → ArgNumber
arg_of_number n = record { eights = octal_of (n / 8); ones = octal_of (n % 8) }

abbrev pub first_arg : ArgNumber
first_arg = arg_of_number 0
