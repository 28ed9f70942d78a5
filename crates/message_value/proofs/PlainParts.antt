-- Whether all elements pass a test, of parts that overlap.
use Rattle.std.proofs.Common.{◌≡◌, ◌∙◌, ℕ, ◌+◌, ◌-◌, ◌≤◌, Bool, true, false, List, take, drop, refl, sym, ap, ap₂, arith, take-append-drop, take-add}
use Rattle.std.specs.Prelude.{◌&&◌}
use Rattle.std.specs.List.{list_all}
use Rattle.std.proofs.lemmas.List.Folds.{list_all-append}

of_three : (a b c : Bool) → ((a && b) && (b && c)) ≡ ((a && b) && c)
of_three true true c = refl
of_three true false c = refl
of_three false b c = refl

and-assoc : (a b c : Bool) → ((a && b) && c) ≡ (a && (b && c))
and-assoc true b c = refl
and-assoc false b c = refl

-- of a list that is split
all-split : (test : ℕ → Bool) (xs : List ℕ) (n : ℕ) → list_all test xs ≡ (list_all test (take n xs) && list_all test (drop n xs))
all-split test xs n = ap (list_all test) (sym (take-append-drop n xs)) ∙ list_all-append test (take n xs) (drop n xs)

-- of the first elements with one part more
pub all-more : (test : ℕ → Bool) (xs : List ℕ) (n m : ℕ) → list_all test (take (n + m) xs) ≡ (list_all test (take n xs) && list_all test (take m (drop n xs)))
all-more test xs n m = ap (list_all test) (take-add n m xs) ∙ list_all-append test (take n xs) (take m (drop n xs))

overlap-by : (test : ℕ → Bool) (xs : List ℕ) (last more : ℕ) → (list_all test (take (last + more) xs) && list_all test (drop last xs)) ≡ list_all test xs
overlap-by test xs last more =
    let a : Bool = list_all test (take last xs) in
    let b : Bool = list_all test (take more (drop last xs)) in
    let c : Bool = list_all test (drop more (drop last xs)) in
    ap₂ (λ p q. p && q) (all-more test xs last more) (all-split test (drop last xs) more)
    ∙ of_three a b c
    ∙ and-assoc a b c
    ∙ ap (λ p. a && p) (sym (all-split test (drop last xs) more))
    ∙ sym (all-split test xs last)

-- of the first and the last elements, where none is left out
pub all-overlap : (test : ℕ → Bool) (xs : List ℕ) (first last : ℕ) → last ≤ first → (list_all test (take first xs) && list_all test (drop last xs)) ≡ list_all test xs
all-overlap test xs first last h = ap (λ n. list_all test (take n xs) && list_all test (drop last xs)) (omega arith) ∙ overlap-by test xs last (first - last)
