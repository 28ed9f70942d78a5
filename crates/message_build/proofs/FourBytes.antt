-- Four bytes of a list, written one by one.
use Rattle.std.proofs.Common.{◌≡◌, ℕ, ◌+◌, ◌-◌, ◌≤◌, List, [], ◌∷◌, ◌++◌, length, take, drop, get_or, refl, sym, ap, ◌∙◌, arith}
use Rattle.std.proofs.Math.ListN.{set}
use Rattle.std.proofs.lemmas.List.{set-append_right, take-append-drop, length-append, length-take-le, drop-drop}

set_at : (front ys : List ℕ) (k i a : ℕ) → i ≡ length front + k → set (front ++ ys) i a ≡ front ++ set ys k a
set_at front ys k i a is =
    let rest : i - length front ≡ k = omega arith in
    let le : length front ≤ i = omega arith in
    set-append_right front ys (length front) i a refl le ∙ ap (λ (j : ℕ). front ++ set ys j a) rest

first_four : (ys : List ℕ) (a b c d : ℕ) → 4 ≤ length ys → set (set (set (set ys 0 a) 1 b) 2 c) 3 d ≡ a ∷ b ∷ c ∷ d ∷ drop 4 ys
first_four [] a b c d le = absurd (omega arith)
first_four (w ∷ []) a b c d le = absurd (omega arith)
first_four (w ∷ x ∷ []) a b c d le = absurd (omega arith)
first_four (w ∷ x ∷ y ∷ []) a b c d le = absurd (omega arith)
first_four (w ∷ x ∷ y ∷ z ∷ ys) a b c d le = refl

pub four_set : (xs : List ℕ) (at a b c d : ℕ) → at + 4 ≤ length xs → set (set (set (set xs at a) (at + 1) b) (at + 2) c) (at + 3) d ≡ take at xs ++ a ∷ b ∷ c ∷ d ∷ drop (at + 4) xs
four_set xs at a b c d le =
    let front = take at xs in
    let ys = drop at xs in
    let few : at ≤ length xs = omega arith in
    let len : length front ≡ at = length-take-le at xs few in
    let whole : xs ≡ front ++ ys = sym (take-append-drop at xs) in
    let long : 4 ≤ length ys = omega (arith, ap (λ (l : List ℕ). length l) whole, length-append front ys) in
    let e0 : set xs at a ≡ front ++ set ys 0 a = ap (λ (l : List ℕ). set l at a) whole ∙ set_at front ys 0 at a (omega (arith, len)) in
    let e1 : set (set xs at a) (at + 1) b ≡ front ++ set (set ys 0 a) 1 b = ap (λ (l : List ℕ). set l (at + 1) b) e0 ∙ set_at front (set ys 0 a) 1 (at + 1) b (omega (arith, len)) in
    let e2 : set (set (set xs at a) (at + 1) b) (at + 2) c ≡ front ++ set (set (set ys 0 a) 1 b) 2 c = ap (λ (l : List ℕ). set l (at + 2) c) e1 ∙ set_at front (set (set ys 0 a) 1 b) 2 (at + 2) c (omega (arith, len)) in
    ap (λ (l : List ℕ). set l (at + 3) d) e2 ∙ set_at front (set (set (set ys 0 a) 1 b) 2 c) 3 (at + 3) d (omega (arith, len))
    ∙ ap (λ (l : List ℕ). front ++ l) (first_four ys a b c d long)
    ∙ ap (λ (l : List ℕ). front ++ a ∷ b ∷ c ∷ d ∷ l) (tail xs at)
  where
    tail : (xs : List ℕ) (at : ℕ) → drop 4 (drop at xs) ≡ drop (at + 4) xs
    tail xs at = simp drop-drop

-- a list of four
pub four_bytes : (xs : List ℕ) → length xs ≡ 4 → xs ≡ get_or xs 0 0 ∷ get_or xs 1 0 ∷ get_or xs 2 0 ∷ get_or xs 3 0 ∷ []
four_bytes [] e = absurd (omega arith)
four_bytes (a ∷ []) e = absurd (omega arith)
four_bytes (a ∷ b ∷ []) e = absurd (omega arith)
four_bytes (a ∷ b ∷ c ∷ []) e = absurd (omega arith)
four_bytes (a ∷ b ∷ c ∷ d ∷ []) e = refl
four_bytes (a ∷ b ∷ c ∷ d ∷ e' ∷ xs) e = absurd (omega arith)
