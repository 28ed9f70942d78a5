-- The loops over what an array holds: reading goes on after each turn to what the whole array reads as.
use Rattle.std.proofs.Common.{◌≡◌, ℕ, zero, suc, ◌<◌, ◌≤◌, true, false, List, [], ◌∷◌, length, Result, Ok, Err, refl, ◌∙◌, arith}
use Rattle.std.specs.Prelude.{◌==◌}
use Rattle.std.proofs.lemmas.Bool.{eq-eqb}
use Rattle.message_value.specs.declared.error.MsgError.{MsgError}
use Rattle.message_value.specs.Reading.{At, ◌>>=◌, each_at}

-- The whole is Ok where the reading of what is left is, and else has its fault.
abbrev pub Follows : {X : Type 0} → Result (List X) MsgError → Result (List X) MsgError → Type 0
Follows (Ok found) whole = (all : List _) × (whole ≡ Ok all)
Follows (Err fault) whole = whole ≡ Err fault

pub record Left {X : Type 0} (reader : At → Result (X × At) MsgError) (at : At) (whole : Result (List X) MsgError) : Type 0 where
  pub turns : ℕ
  pub enough : length at.rest ≤ turns
  pub same : Follows (each_at reader turns at) whole

itself : {X : Type 0} (r : Result (List X) MsgError) → Follows r r
itself (Ok found) = (found, refl)
itself (Err fault) = refl

pub all_left : {X : Type 0} (reader : At → Result (X × At) MsgError) (at : At) → Left reader at (each_at reader (length at.rest) at)
all_left reader at = record { turns = length at.rest; enough = omega arith; same = itself (each_at reader (length at.rest) at) }

-- one turn, where bytes are left
turn : {X : Type 0} (turns : ℕ) (reader : At → Result (X × At) MsgError) (at : At) → length at.rest ≤ turns → (length at.rest == 0) ≡ false
    → (before : ℕ) × (turns ≡ suc before) × (each_at reader turns at ≡ (reader at >>= λ first. each_at reader before first.1 >>= λ more. Ok (first.0 ∷ more)))
turn zero reader at enough some = absurd (let none : (length at.rest == 0) ≡ true = eq-eqb _ _ (omega arith) in cc)
turn (suc before) reader at enough some = (before, refl, rw some refl)

after_first : {X : Type 0} (first : X) (r whole : Result (List X) MsgError) → Follows (r >>= λ more. Ok (first ∷ more)) whole → Follows r whole
after_first first (Ok more) whole h = h
after_first first (Err fault) whole h = h

pub goes_on : {X : Type 0} (reader : At → Result (X × At) MsgError) (at tail : At) (whole : Result (List X) MsgError) → Left reader at whole → (length at.rest == 0) ≡ false
    → (first : X) × (reader at ≡ Ok (first, tail)) → length tail.rest < length at.rest → Left reader tail whole
goes_on reader at tail whole left some next shorter =
    let t = turn left.turns reader at left.enough some in
    let one : each_at reader left.turns at ≡ (each_at reader t.0 tail >>= λ more. Ok (next.0 ∷ more)) = t.2 ∙ rw next.1 refl in
    record { turns = t.0; enough = omega arith; same = after_first next.0 (each_at reader t.0 tail) whole (rw one at left.same) }

pub stops : {X : Type 0} (reader : At → Result (X × At) MsgError) (at : At) (whole : Result (List X) MsgError) (fault : MsgError) → Left reader at whole → (length at.rest == 0) ≡ false
    → reader at ≡ Err fault → whole ≡ Err fault
stops reader at whole fault left some failed =
    let t = turn left.turns reader at left.enough some in
    let one : each_at reader left.turns at ≡ Err fault = t.2 ∙ rw failed refl in
    rw one at left.same

nothing_left : {X : Type 0} (turns : ℕ) (reader : At → Result (X × At) MsgError) (at : At) → (length at.rest == 0) ≡ true → each_at reader turns at ≡ Ok []
nothing_left zero reader at none = refl
nothing_left (suc turns) reader at none = rw none refl

pub at_end : {X : Type 0} (reader : At → Result (X × At) MsgError) (at : At) (whole : Result (List X) MsgError) → Left reader at whole → (length at.rest == 0) ≡ true
    → (all : List X) × (whole ≡ Ok all)
at_end reader at whole left none = rw (nothing_left left.turns reader at none) at left.same
