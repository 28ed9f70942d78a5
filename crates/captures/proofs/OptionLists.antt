-- The options of a list, one after the other.
use Rattle.std.proofs.Common.{◌≡◌, ℕ, zero, suc, ◌+◌, ◌<◌, ◌≤◌, cond, ltb, List, [], ◌∷◌, length, drop, Result, Ok, Err, refl, ap, ◌∙◌, arith}
use Rattle.std.proofs.lemmas.Bool.{lt-ltb, le-ltb, ne_eqb}
use Rattle.captures.specs.declared.order.Order.{Order}
use Rattle.captures.specs.declared.error.CaptureError.{CaptureError}
use Rattle.captures.specs.declared.error.CaptureError.TheVariants as faults
use Rattle.captures.specs.declared.times.Times.{Times}
use Rattle.captures.specs.Numbers.{half}
use Rattle.captures.specs.Options.{padded_len, after_option, and_then, times_from}
use Rattle.captures.proofs.Choices.{holds, fails}

pub past : (order : Order) (times : Times) (k : ℕ) (bytes : List ℕ) → times_from order times k bytes ≡ times_from order times 0 (drop k bytes)
past order times zero bytes = refl
past order times (suc k) [] = refl
past order times (suc k) (byte ∷ rest) = past order times k rest

pub ends_with_bytes : (order : Order) (times : Times) (bytes : List ℕ) → length bytes < 4 → times_from order times 0 bytes ≡ Ok times
ends_with_bytes order times [] few = refl
ends_with_bytes order times (byte ∷ rest) few = holds _ _ _ (lt-ltb (length (byte ∷ rest)) 4 few)

-- an option that isn't the end
at_option : (order : Order) (times : Times) (byte : ℕ) (rest : List ℕ) → 4 ≤ length (byte ∷ rest) → (half order (byte ∷ rest) 0 ≡ 0 → ⊥)
    → times_from order times 0 (byte ∷ rest) ≡ cond (ltb (length (byte ∷ rest)) (4 + half order (byte ∷ rest) 2)) (Err faults.OptionLength) (and_then (after_option order (byte ∷ rest) times) (λ after. times_from order after (3 + padded_len (half order (byte ∷ rest) 2)) rest))
at_option order times byte rest there code =
    fails _ _ _ (le-ltb (length (byte ∷ rest)) 4 there) ∙ fails _ _ _ (ne_eqb (half order (byte ∷ rest) 0) 0 code)

pub too_long : (order : Order) (times : Times) (bytes : List ℕ) → 4 ≤ length bytes → (half order bytes 0 ≡ 0 → ⊥) → length bytes < 4 + half order bytes 2 → times_from order times 0 bytes ≡ Err faults.OptionLength
too_long order times [] there code long = absurd (omega arith)
too_long order times (byte ∷ rest) there code long =
    at_option order times byte rest there code ∙ holds _ _ _ (lt-ltb (length (byte ∷ rest)) (4 + half order (byte ∷ rest) 2) long)

-- after an option come those past its padded_len value
pub after_one : (order : Order) (times after : Times) (bytes : List ℕ) → 4 ≤ length bytes → (half order bytes 0 ≡ 0 → ⊥) → 4 + half order bytes 2 ≤ length bytes → after_option order bytes times ≡ Ok after
    → times_from order times 0 bytes ≡ times_from order after 0 (drop (4 + padded_len (half order bytes 2)) bytes)
after_one order times after [] there code fits good = absurd (omega arith)
after_one order times after (byte ∷ rest) there code fits good =
    at_option order times byte rest there code ∙ fails _ _ _ (le-ltb (length (byte ∷ rest)) (4 + half order (byte ∷ rest) 2) fits)
    ∙ ap (λ (x : Result Times CaptureError). and_then x (λ after. times_from order after (3 + padded_len (half order (byte ∷ rest) 2)) rest)) good
    ∙ past order after (3 + padded_len (half order (byte ∷ rest) 2)) rest
    ∙ ap (λ (k : ℕ). times_from order after 0 (drop k (byte ∷ rest))) (let e : suc (3 + padded_len (half order (byte ∷ rest) 2)) ≡ 4 + padded_len (half order (byte ∷ rest) 2) = omega arith in e)
