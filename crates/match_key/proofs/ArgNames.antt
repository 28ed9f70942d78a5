-- The names of arguments: `arg`, digits and a suffix.
use Rattle.std.proofs.Common.{◌≡◌, ℕ, Bool, true, false, cond, List, [], ◌∷◌, drop, refl, arith}
use Rattle.std.specs.Prelude.{Some, None, ◌==◌, ◌&&◌}
use Rattle.std.specs.List.{list_all}
use Rattle.std.proofs.lemmas.Bool.{and_parts, eqb-true}
use Rattle.signature.specs.Name.{is_digit}
use Rattle.match_key.specs.Key.{key_named, digits_of, after_digits, arg_key, is_of_arg}

pub digits_are : (bytes : List ℕ) → list_all is_digit (digits_of bytes) ≡ true
digits_are [] = refl
digits_are (b ∷ bs) = grind (arith, digits_are bs)

-- a word that begins with `arg`
pub of_arg : (word : List ℕ) → is_of_arg word ≡ true → word ≡ 97 ∷ 114 ∷ 103 ∷ drop 3 word
of_arg (a ∷ b ∷ c ∷ rest) e =
    let h = and_parts (a == 97 && b == 114) (c == 103) e in
    let g = and_parts (a == 97) (b == 114) h.0 in
    rw (eqb-true a 97 g.0, eqb-true b 114 g.1, eqb-true c 103 h.1) refl
of_arg _ e = absurd cc

pub arg_named : (word rest : List ℕ) → Some rest ≡ cond (is_of_arg word) (Some (drop 3 word)) None → key_named word ≡ arg_key (digits_of rest) (after_digits rest)
arg_named word rest e = go (is_of_arg word) refl e
  where
    go : (b : Bool) → is_of_arg word ≡ b → Some rest ≡ cond b (Some (drop 3 word)) None → key_named word ≡ arg_key (digits_of rest) (after_digits rest)
    go true is e =
        let same : rest ≡ drop 3 word = cc in
        rw (same, of_arg word is) refl
    go false is e = absurd cc
