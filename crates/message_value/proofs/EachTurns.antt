-- Each item takes at least a byte, so that more turns than there are bytes change nothing.
use Rattle.std.proofs.Common.{◌≡◌, ℕ, zero, suc, ◌+◌, ◌-◌, ◌<◌, ◌≤◌, Bool, true, false, cond, eqb, List, [], ◌∷◌, length, Result, Ok, Err, refl, ap, ◌∙◌, arith}
use Rattle.std.proofs.lemmas.Bool.{ne_eqb}
use Rattle.message_value.specs.declared.error.MsgError.{MsgError}
use Rattle.message_value.specs.Reading.{◌>>=◌, At, each_at}

-- a reader that leaves fewer bytes
abbrev pub ItemShorter : {X : Type 0} → (At → Result (X × At) MsgError) → Type 0
ItemShorter {X = X} reader = (a : At) (found : X × At) → reader a ≡ Ok found → length found.1.rest < length a.rest

nothing_left : {X : Type 0} (turns : ℕ) (reader : At → Result (X × At) MsgError) (a : At) → length a.rest ≡ 0 → each_at reader turns a ≡ Ok []
nothing_left zero reader a e = refl
nothing_left (suc turns) reader a e = rw e refl

pub enough_turns : {X : Type 0} (reader : At → Result (X × At) MsgError) → ItemShorter reader → (turns more : ℕ) (a : At) → length a.rest ≤ turns → each_at reader (turns + more) a ≡ each_at reader turns a
enough_turns reader shorter zero more a le =
    let none : 0 + more ≡ more = omega arith in
    rw none (nothing_left more reader a (omega arith))
enough_turns {X = X} reader shorter (suc turns) more a le =
    let one : suc turns + more ≡ suc (turns + more) = omega arith in
    rw one (go (eqb (length a.rest) 0) (reader a) (λ first e. enough_turns reader shorter turns more first.1 (omega (arith, shorter a first e))))
  where
    go : (b : Bool) (r : Result (X × At) MsgError) → ((first : X × At) → r ≡ Ok first → each_at reader (turns + more) first.1 ≡ each_at reader turns first.1)
        → cond b (Ok []) (r >>= λ first. each_at reader (turns + more) first.1 >>= λ more. Ok (first.0 ∷ more)) ≡ cond b (Ok []) (r >>= λ first. each_at reader turns first.1 >>= λ more. Ok (first.0 ∷ more))
    go true r ih = refl
    go false (Ok first) ih = ap (λ r. r >>= λ more. Ok (first.0 ∷ more)) (ih first refl)
    go false (Err fault) ih = refl

-- ---- one turn, as a loop goes over the items

-- the items up to the end, with as many turns as there are bytes
abbrev pub each_after : {X : Type 0} → (At → Result (X × At) MsgError) → At → Result (List X) MsgError
each_after reader a = each_at reader (length a.rest) a

pub after_start : {X : Type 0} (reader : At → Result (X × At) MsgError) → ItemShorter reader → (turns : ℕ) (a : At) → length a.rest ≤ turns → each_at reader turns a ≡ each_after reader a
after_start reader shorter turns a le =
    let more : turns ≡ length a.rest + (turns - length a.rest) = omega arith in
    ap (λ (k : ℕ). each_at reader k a) more ∙ enough_turns reader shorter (length a.rest) (turns - length a.rest) a (omega arith)

one_turn : {X : Type 0} (reader : At → Result (X × At) MsgError) (turns : ℕ) (a : At) → 0 < length a.rest → each_at reader (suc turns) a ≡ (reader a >>= λ first. each_at reader turns first.1 >>= λ more. Ok (first.0 ∷ more))
one_turn reader turns a lt =
    let some : eqb (length a.rest) 0 ≡ false = ne_eqb _ _ (λ e. omega arith) in
    rw some refl

after_suc : {X : Type 0} (reader : At → Result (X × At) MsgError) (a : At) → 0 < length a.rest → each_after reader a ≡ (reader a >>= λ first. each_at reader (length a.rest - 1) first.1 >>= λ more. Ok (first.0 ∷ more))
after_suc reader a lt =
    let is : length a.rest ≡ suc (length a.rest - 1) = omega arith in
    ap (λ (k : ℕ). each_at reader k a) is ∙ one_turn reader (length a.rest - 1) a lt

-- one item, and those after it
pub after_one : {X : Type 0} (reader : At → Result (X × At) MsgError) → ItemShorter reader → (a : At) (found : X × At) → 0 < length a.rest → reader a ≡ Ok found → each_after reader a ≡ (each_after reader found.1 >>= λ more. Ok (found.0 ∷ more))
after_one reader shorter a found lt e =
    let less = shorter a found e in
    after_suc reader a lt ∙ rw (e, after_start reader shorter (length a.rest - 1) found.1 (omega (arith, less))) refl
