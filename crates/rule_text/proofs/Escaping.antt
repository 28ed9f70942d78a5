-- Values with escaped apostrophes.
use Rattle.std.proofs.Common.{ℕ, suc, ◌+◌, ◌<◌, ◌≡◌, ◌==◌, ◌++◌, Bool, true, false, not, List, [], ◌∷◌, Option, Some, None, Bor, take, drop, length, length-drop, refl, ap, sym, ◌∙◌, cond, arith, if◌then◌else◌}
use Rattle.std.specs.Prelude.{codes, MatchOption}
use Rattle.std.specs.List.{position_or_len, before_first, after_first}
use Rattle.rule_text.specs.Quoting.{escaped_text}

-- a value without apostrophes stays as it is
pub no_apostrophe : (s : List ℕ) → position_or_len (λ b. b == 39) s ≡ length s → escaped_text s ≡ s
no_apostrophe [] e = refl
no_apostrophe (b ∷ bs) e = go (b == 39) e (no_apostrophe bs)
  where
    go : (t : Bool) → cond (not t) (1 + position_or_len (λ b. b == 39) bs) 0 ≡ length (b ∷ bs) → (position_or_len (λ b. b == 39) bs ≡ length bs → escaped_text bs ≡ bs) → (if t then codes "'\\''" else b ∷ []) ++ escaped_text bs ≡ b ∷ bs
    go true e more = absurd (omega arith)
    go false e more = ap (λ (l : List ℕ). b ∷ l) (more (omega arith))

-- another begins with what comes before its first apostrophe
pub first_apostrophe : (s : List ℕ) → position_or_len (λ b. b == 39) s < length s → escaped_text s ≡ before_first (λ b. b == 39) s ++ (codes "'\\''" ++ escaped_text (after_first (λ b. b == 39) s))
first_apostrophe [] lt = absurd (omega arith)
first_apostrophe (b ∷ bs) lt = go (b == 39) lt (first_apostrophe bs)
  where
    go : (t : Bool) → cond (not t) (1 + position_or_len (λ b. b == 39) bs) 0 < length (b ∷ bs)
        → (position_or_len (λ b. b == 39) bs < length bs → escaped_text bs ≡ before_first (λ b. b == 39) bs ++ (codes "'\\''" ++ escaped_text (after_first (λ b. b == 39) bs)))
        → (if t then codes "'\\''" else b ∷ []) ++ escaped_text bs ≡ take (cond (not t) (1 + position_or_len (λ b. b == 39) bs) 0) (b ∷ bs) ++ (codes "'\\''" ++ escaped_text (drop (cond (not t) (1 + position_or_len (λ b. b == 39) bs) 0 + 1) (b ∷ bs)))
    go true lt more = refl
    go false lt more =
        let n = position_or_len (λ b. b == 39) bs in
        let front : suc n ≡ 1 + n = omega arith in
        let back : suc (n + 1) ≡ 1 + n + 1 = omega arith in
        ap (λ (l : List ℕ). b ∷ l) (more (omega arith))
        ∙ ap (λ (k : ℕ). take k (b ∷ bs) ++ (codes "'\\''" ++ escaped_text (drop (suc (n + 1)) (b ∷ bs)))) front
        ∙ ap (λ (k : ℕ). take (1 + n) (b ∷ bs) ++ (codes "'\\''" ++ escaped_text (drop k (b ∷ bs)))) back

-- the same of the parts that a split at the first apostrophe gives
pub split : (s : List ℕ) (r : Option (Bor (List ℕ) × Bor (List ℕ)))
    → MatchOption r (position_or_len (λ b. b == 39) s ≡ length s) (λ x. (x.0.now ≡ before_first (λ b. b == 39) s) × (x.1.now ≡ after_first (λ b. b == 39) s) × (position_or_len (λ b. b == 39) s < length s))
    → MatchOption r (escaped_text s ≡ s) (λ x. (escaped_text s ≡ x.0.now ++ (codes "'\\''" ++ escaped_text x.1.now)) × (length x.1.now < length s))
split s None h = no_apostrophe s h
split s (Some x) h =
    let dropped = length-drop (position_or_len (λ b. b == 39) s + 1) s in
    let as_long : length x.1.now ≡ length (after_first (λ b. b == 39) s) = ap (λ (l : List ℕ). length l) h.1 in (
      first_apostrophe s h.2 ∙ ap (λ (l : List ℕ). l ++ (codes "'\\''" ++ escaped_text (after_first (λ b. b == 39) s))) (sym h.0) ∙ ap (λ (l : List ℕ). x.0.now ++ (codes "'\\''" ++ escaped_text l)) (sym h.1),
      omega arith,
    )
