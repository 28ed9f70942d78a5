-- The digits in front of a word.
use Rattle.std.proofs.Common.{◌≡◌, ℕ, true, List, [], ◌∷◌, refl, arith}
use Rattle.std.specs.List.{list_all}
use Rattle.signature.specs.Name.{is_digit}
use Rattle.match_key.specs.Key.{digits_of}

pub digits_are : (bytes : List ℕ) → list_all is_digit (digits_of bytes) ≡ true
digits_are [] = refl
digits_are (b ∷ bs) = grind (arith, digits_are bs)
