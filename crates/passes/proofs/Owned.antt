-- The commands of a connection in longer histories.
use Rattle.std.proofs.Common.{◌≡◌, ℕ, ◌+◌, ◌≤◌, Bool, true, false, List, [], ◌∷◌, ◌++◌, length, fold, refl, sym, ap, ◌∙◌, arith, length-append}
use Rattle.std.specs.Prelude.{if◌then◌else◌}
use mathlib.Core.List.{IsPrefix}
use Rattle.program_table.specs.declared.command.Command.{Command}
use Rattle.program_table.specs.State.{State, opening}
use Rattle.program_table.specs.Does.{next_of}
use Rattle.program_table.specs.History.{after, is_command_of, own_from, own_commands}

module _ {M : Type 0} where
  glue : (b : Bool) (x : Command M) (xs ys : List (Command M)) → (if b then x ∷ (xs ++ ys) else xs ++ ys) ≡ (if b then x ∷ xs else xs) ++ ys
  glue true x xs ys = refl
  glue false x xs ys = refl

  own-append : (s : State M) (n : ℕ) (l r : List (Command M)) → own_from s n (l ++ r) ≡ own_from s n l ++ own_from (fold next_of s l) n r
  own-append s n [] r = refl
  own-append s n (x ∷ xs) r =
      ap (λ (w : List (Command M)). if is_command_of s n x then x ∷ w else w) (own-append (next_of s x) n xs r)
      ∙ glue (is_command_of s n x) x (own_from (next_of s x) n xs) (own_from (fold next_of (next_of s x) xs) n r)

  -- one more command of the connection
  pub own-push : (l : List (Command M)) (n : ℕ) (x : Command M) → is_command_of (after l) n x ≡ true → own_commands n (l ++ x ∷ []) ≡ own_commands n l ++ x ∷ []
  own-push l n x is = own-append opening n l (x ∷ []) ∙ ap (λ (b : Bool). own_commands n l ++ (if b then x ∷ [] else [])) is

  -- a longer history has no fewer
  pub own_grows : (l m : List (Command M)) (n : ℕ) → IsPrefix l m → length (own_commands n l) ≤ length (own_commands n m)
  own_grows l m n p =
      let e = ap (λ (w : List (Command M)). length (own_commands n w)) (sym p.1) ∙ ap length (own-append opening n l p.0) in
      omega (arith, e, length-append (own_commands n l) (own_from (after l) n p.0))

  whole : (xs ys : List (Command M)) → length (xs ++ ys) ≤ length xs → xs ≡ xs ++ ys
  whole [] [] h = refl
  whole [] (y ∷ ys) h = absurd (omega arith)
  whole (x ∷ xs) ys h = ap (λ (w : List (Command M)). x ∷ w) (whole xs ys (omega arith))

  -- no fewer are the same
  pub own_same : (l m : List (Command M)) (n : ℕ) → IsPrefix l m → length (own_commands n m) ≤ length (own_commands n l) → own_commands n m ≡ own_commands n l
  own_same l m n p h =
      let e : own_commands n m ≡ own_commands n l ++ own_from (after l) n p.0 = ap (own_commands n) (sym p.1) ∙ own-append opening n l p.0 in
      let k : length (own_commands n l ++ own_from (after l) n p.0) ≤ length (own_commands n l) = omega (arith, ap length e, h) in
      e ∙ sym (whole (own_commands n l) (own_from (after l) n p.0) k)

  within : (b : Bool) (x : Command M) (xs ys : List (Command M)) → length xs ≤ length ys → length (if b then x ∷ xs else xs) ≤ length ys + 1
  within true x xs ys h = omega arith
  within false x xs ys h = omega arith

  within_from : (s : State M) (n : ℕ) (l : List (Command M)) → length (own_from s n l) ≤ length l
  within_from s n [] = omega arith
  within_from s n (x ∷ xs) =
      let rest = within (is_command_of s n x) x (own_from (next_of s x) n xs) xs (within_from (next_of s x) n xs) in omega (arith, rest)

  -- a connection has no more commands than there are
  pub own_within : (l : List (Command M)) (n : ℕ) → length (own_commands n l) ≤ length l
  own_within l n = within_from opening n l
