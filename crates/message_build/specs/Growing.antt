-- Inner: lists of bytes that grow, and are cut back where memory runs out.
use Rattle.std.specs.Prelude.{◌≡◌, ℕ, ◌+◌, ◌<◌, List, ◌++◌, length, take, Option, Some, None, Result, Ok, Err}
use Rattle.message_value.specs.Fits.{max_array_len}

-- What a call appended: all of it, or the bytes that were there are still in front.
abbrev pub Appends : {X E : Type 0} → Result X E → List ℕ → List ℕ → List ℕ → Type 0
Appends (Ok x) old new added = new ≡ old ++ added
Appends (Err e) old new added = take (length old) new ≡ old

-- where `len` bytes end that begin at a place, or that they are more than an array may have
abbrev pub Ends : Option ℕ → ℕ → ℕ → Type 0
Ends (Some end) place len = end ≡ place + len
Ends None place len = max_array_len < len

-- A list grew, and then another one; or memory ran out, and the first is cut back and the second as it was.
abbrev pub Completes : {X Y E : Type 0} → Result X E → Result Y E → List ℕ → List ℕ → ℕ → List ℕ → List ℕ → List ℕ → Type 0
Completes (Ok x) (Ok y) grown cut len list new more = (cut ≡ grown) × (new ≡ list ++ more)
Completes (Err e) (Ok y) grown cut len list new more = ⊥
Completes pushed (Err e) grown cut len list new more = (cut ≡ take len grown) × (new ≡ list)
