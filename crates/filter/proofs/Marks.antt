-- Texts with a backslash before each byte of one kind.
use Rattle.std.proofs.Common.{ℕ, suc, ◌+◌, ◌<◌, ◌≡◌, ◌==◌, ◌++◌, Bool, true, false, not, List, [], ◌∷◌, Option, Some, None, Bor, take, drop, length, length-drop, refl, ap, sym, ◌∙◌, cond, arith, if◌then◌else◌}
use Rattle.std.specs.Prelude.{MatchOption}
use Rattle.std.specs.List.{position_or_len, before_first, after_first}
use Rattle.filter.specs.Printing.{escape_all}

-- a text without it stays as it is
pub no_mark : (mark : ℕ) (s : List ℕ) → position_or_len (λ b. b == mark) s ≡ length s → escape_all mark s ≡ s
no_mark mark [] e = refl
no_mark mark (b ∷ bs) e = go (b == mark) e (no_mark mark bs)
  where
    go : (t : Bool) → cond (not t) (1 + position_or_len (λ b. b == mark) bs) 0 ≡ length (b ∷ bs) → (position_or_len (λ b. b == mark) bs ≡ length bs → escape_all mark bs ≡ bs) → (if t then (92 ∷ mark ∷ []) else b ∷ []) ++ escape_all mark bs ≡ b ∷ bs
    go true e more = absurd (omega arith)
    go false e more = ap (λ (l : List ℕ). b ∷ l) (more (omega arith))

-- another begins with what comes before the first
pub first_mark : (mark : ℕ) (s : List ℕ) → position_or_len (λ b. b == mark) s < length s → escape_all mark s ≡ before_first (λ b. b == mark) s ++ ((92 ∷ mark ∷ []) ++ escape_all mark (after_first (λ b. b == mark) s))
first_mark mark [] lt = absurd (omega arith)
first_mark mark (b ∷ bs) lt = go (b == mark) lt (first_mark mark bs)
  where
    go : (t : Bool) → cond (not t) (1 + position_or_len (λ b. b == mark) bs) 0 < length (b ∷ bs)
        → (position_or_len (λ b. b == mark) bs < length bs → escape_all mark bs ≡ before_first (λ b. b == mark) bs ++ ((92 ∷ mark ∷ []) ++ escape_all mark (after_first (λ b. b == mark) bs)))
        → (if t then (92 ∷ mark ∷ []) else b ∷ []) ++ escape_all mark bs ≡ take (cond (not t) (1 + position_or_len (λ b. b == mark) bs) 0) (b ∷ bs) ++ ((92 ∷ mark ∷ []) ++ escape_all mark (drop (cond (not t) (1 + position_or_len (λ b. b == mark) bs) 0 + 1) (b ∷ bs)))
    go true lt more = refl
    go false lt more =
        let n = position_or_len (λ b. b == mark) bs in
        let front : suc n ≡ 1 + n = omega arith in
        let back : suc (n + 1) ≡ 1 + n + 1 = omega arith in
        ap (λ (l : List ℕ). b ∷ l) (more (omega arith))
        ∙ ap (λ (k : ℕ). take k (b ∷ bs) ++ ((92 ∷ mark ∷ []) ++ escape_all mark (drop (suc (n + 1)) (b ∷ bs)))) front
        ∙ ap (λ (k : ℕ). take (1 + n) (b ∷ bs) ++ ((92 ∷ mark ∷ []) ++ escape_all mark (drop k (b ∷ bs)))) back

-- the same of the parts that a split at the first gives
pub split : (mark : ℕ) (s : List ℕ) (r : Option (Bor (List ℕ) × Bor (List ℕ)))
    → MatchOption r (position_or_len (λ b. b == mark) s ≡ length s) (λ x. (x.0.now ≡ before_first (λ b. b == mark) s) × (x.1.now ≡ after_first (λ b. b == mark) s) × (position_or_len (λ b. b == mark) s < length s))
    → MatchOption r (escape_all mark s ≡ s) (λ x. (escape_all mark s ≡ x.0.now ++ ((92 ∷ mark ∷ []) ++ escape_all mark x.1.now)) × (length x.1.now < length s))
split mark s None h = no_mark mark s h
split mark s (Some x) h =
    let dropped = length-drop (position_or_len (λ b. b == mark) s + 1) s in
    let as_long : length x.1.now ≡ length (after_first (λ b. b == mark) s) = ap (λ (l : List ℕ). length l) h.1 in (
      first_mark mark s h.2 ∙ ap (λ (l : List ℕ). l ++ ((92 ∷ mark ∷ []) ++ escape_all mark (after_first (λ b. b == mark) s))) (sym h.0) ∙ ap (λ (l : List ℕ). x.0.now ++ ((92 ∷ mark ∷ []) ++ escape_all mark l)) (sym h.1),
      omega arith,
    )
