-- What seats in a list know.
use Rattle.std.proofs.Common.{ℕ, zero, suc, ◌≡◌, ◌≢◌, false, List, [], ◌∷◌, ◌++◌, length, set, refl, sym, ap, ◌∙◌, arith}
use mathlib.Core.Option.{some, some-injective, some-ne-none}
use lib.ListN.{get_elem?}
use Rattle.outbox.specs.declared.rule.SeatView.{SeatView}
use Rattle.outbox.specs.Views.{blank, seat_known}

-- what a seat in the list knows
pub known_at : (views : List SeatView) (p : ℕ) (v : SeatView) → get_elem? views p ≡ some v → seat_known views p ≡ v
known_at [] p v at = absurd (some-ne-none v (sym at))
known_at (x ∷ xs) zero v at = some-injective x v at
known_at (x ∷ xs) (suc p) v at = known_at xs p v at

-- a fact of each seat, after one has changed
pub each_set : (Q : ℕ → SeatView → Type 0) (views : List SeatView) (p : ℕ) (v w : SeatView) → get_elem? views p ≡ some v → Q p w → ((q : ℕ) → q ≢ p → Q q (seat_known views q)) → (q : ℕ) → Q q (seat_known (set views p w) q)
each_set Q [] p v w at mine others q = absurd (some-ne-none v (sym at))
each_set Q (x ∷ xs) zero v w at mine others zero = mine
each_set Q (x ∷ xs) zero v w at mine others (suc q) = others (suc q) (λ e. omega (arith, e))
each_set Q (x ∷ xs) (suc p) v w at mine others zero = others zero (λ e. omega (arith, e))
each_set Q (x ∷ xs) (suc p) v w at mine others (suc q) =
    let P : ℕ → SeatView → Type 0 = λ j u. Q (suc j) u in each_set P xs p v w at mine (λ j n. others (suc j) (λ e. n (omega (arith, e)))) q

-- and after a new one came
pub each_snoc : (Q : ℕ → SeatView → Type 0) (views : List SeatView) (r : SeatView) → ((q : ℕ) → Q q blank → Q q r) → ((q : ℕ) → Q q (seat_known views q)) → (q : ℕ) → Q q (seat_known (views ++ r ∷ []) q)
each_snoc Q [] r new all zero = new zero (all zero)
each_snoc Q [] r new all (suc q) = all (suc q)
each_snoc Q (x ∷ xs) r new all zero = all zero
each_snoc Q (x ∷ xs) r new all (suc q) = let P : ℕ → SeatView → Type 0 = λ j u. Q (suc j) u in each_snoc P xs r (λ j. new (suc j)) (λ j. all (suc j)) q

-- and after a new one came, whose number is known
pub each_new : (Q : ℕ → SeatView → Type 0) (views : List SeatView) (r : SeatView) → Q (length views) r → ((q : ℕ) → q ≢ length views → Q q (seat_known views q)) → (q : ℕ) → Q q (seat_known (views ++ r ∷ []) q)
each_new Q [] r new all zero = new
each_new Q [] r new all (suc q) = all (suc q) (λ e. omega (arith, e))
each_new Q (x ∷ xs) r new all zero = all zero (λ e. omega (arith, e))
each_new Q (x ∷ xs) r new all (suc q) =
    let P : ℕ → SeatView → Type 0 = λ j u. Q (suc j) u in each_new P xs r new (λ j n. all (suc j) (λ e. n (omega (arith, e)))) q

pub minted_set : (views : List SeatView) (p : ℕ) (v w : SeatView) → get_elem? views p ≡ some v → w.minted ≡ v.minted → (q : ℕ) → (seat_known (set views p w) q).minted ≡ (seat_known views q).minted
minted_set views p v w at same =
    let Q : ℕ → SeatView → Type 0 = λ q u. u.minted ≡ (seat_known views q).minted in each_set Q views p v w at (same ∙ ap (λ (u : SeatView). u.minted) (sym (known_at views p v at))) (λ q n. refl)

pub minted_snoc : (views : List SeatView) (r : SeatView) → r.minted ≡ false → (q : ℕ) → (seat_known (views ++ r ∷ []) q).minted ≡ (seat_known views q).minted
minted_snoc [] r is zero = is
minted_snoc [] r is (suc q) = refl
minted_snoc (x ∷ xs) r is zero = refl
minted_snoc (x ∷ xs) r is (suc q) = minted_snoc xs r is q

pub known_else : (views : List SeatView) (p : ℕ) (v w : SeatView) → get_elem? views p ≡ some v → (q : ℕ) → q ≢ p → seat_known (set views p w) q ≡ seat_known views q
known_else views p v w at =
    let Q : ℕ → SeatView → Type 0 = λ q u. q ≢ p → u ≡ seat_known views q in each_set Q views p v w at (λ n. absurd (n refl)) (λ q n m. refl)
