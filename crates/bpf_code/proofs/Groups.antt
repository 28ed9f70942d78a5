-- Bytes in groups of eight.
use Rattle.std.proofs.Common.{◌≡◌, ℕ, zero, suc, ◌*◌, List, [], ◌∷◌, ◌++◌, length, take, drop, refl, ap, ◌∙◌, arith, length-drop}
use Rattle.std.proofs.lemmas.List.{take-append-drop}
use Rattle.std.specs.List.{flat_map}
use Rattle.std.specs.Simd.{first_chunks}

-- the groups of bytes whose number is divisible by eight are all of them
pub joined : (k : ℕ) (xs : List ℕ) → length xs ≡ k * 8 → flat_map (λ (group : List ℕ). group) (first_chunks 8 k xs) ≡ xs
joined zero [] h = refl
joined zero (x ∷ xs) h = absurd (omega arith)
joined (suc k) xs h =
    let rest : flat_map (λ (group : List ℕ). group) (first_chunks 8 k (drop 8 xs)) ≡ drop 8 xs = joined k (drop 8 xs) (omega (arith, length-drop 8 xs)) in
    ap (λ (ys : List ℕ). take 8 xs ++ ys) rest ∙ take-append-drop 8 xs
