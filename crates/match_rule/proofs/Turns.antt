-- As many turns as there are bytes are enough.
use Rattle.std.proofs.Common.{◌≡◌, ℕ, zero, suc, ◌+◌, ◌*◌, ◌≤◌, false, cond, List, [], ◌∷◌, ◌++◌, length, refl, sym, ap, ◌∙◌, arith}
use Rattle.std.specs.Prelude.{Result, Ok, Err, sum_by, ◌==◌}
use Rattle.std.proofs.lemmas.List.Sums.{sum_by-append, sum_by-cons}
use Rattle.match_key.specs.declared.error.RuleError.{RuleError}
use Rattle.match_rule.specs.declared.condition.Condition.TheVariants.{Compares}
use Rattle.match_key.specs.declared.relation.Relation.{Relation}
use Rattle.match_key.specs.declared.relation.Relation.TheVariants.{NestedPath}
use Rattle.match_rule.specs.declared.term.Term.{Term}
use Rattle.match_rule.specs.declared.term.Term.TheVariants.{Asks, Eavesdrop}
use Rattle.match_rule.specs.Condition.{conditions_in}
use Rattle.match_rule.specs.RuleTree.{slashes, relation_weight, condition_weight}
use Rattle.match_rule.specs.Reading.{◌>>=◌, after_blanks, part_at, parts_from, terms_at}
use Rattle.match_rule.proofs.PartReads.{part_len, bind_ok, term_value}

pub blanks_len : (bytes : List ℕ) → length (after_blanks bytes) ≤ length bytes
blanks_len [] = omega arith
blanks_len (b ∷ bs) = grind (arith, blanks_len bs)

pub parts_from-nil : (n : ℕ) (front : List Term) → parts_from n front [] ≡ Ok front
parts_from-nil zero front = refl
parts_from-nil (suc n) front = refl

enough_turns : (n m : ℕ) (front : List Term) (bytes : List ℕ) → length bytes ≤ n → length bytes ≤ m → parts_from n front bytes ≡ parts_from m front bytes
enough_turns n m front [] p q = parts_from-nil n front ∙ sym (parts_from-nil m front)
enough_turns zero m front (b ∷ bs) p q = absurd (omega arith)
enough_turns (suc n) zero front (b ∷ bs) p q = absurd (omega arith)
enough_turns (suc n) (suc m) front (b ∷ bs) p q = go (part_at front (b ∷ bs)) refl (λ f rest. enough_turns n m f rest)
  where
    go : (found : Result (Term × List ℕ) RuleError) → part_at front (b ∷ bs) ≡ found → ((f : List Term) (rest : List ℕ) → length rest ≤ n → length rest ≤ m → parts_from n f rest ≡ parts_from m f rest) → (found >>= λ part. parts_from n (front ++ part.0 ∷ []) (after_blanks part.1)) ≡ (found >>= λ part. parts_from m (front ++ part.0 ∷ []) (after_blanks part.1))
    go (Err fault) is more = refl
    go (Ok part) is more =
        let shorter = part_len front (b ∷ bs) part.0 part.1 is in
        let blanks = blanks_len part.1 in
        more (front ++ part.0 ∷ []) (after_blanks part.1) (omega arith) (omega arith)

-- one turn
pub turn : (front : List Term) (bytes : List ℕ) (term : Term) (rest : List ℕ) → part_at front bytes ≡ Ok (term, rest) → parts_from (length (after_blanks rest)) (front ++ term ∷ []) (after_blanks rest) ≡ parts_from (length bytes) front bytes
turn front [] term rest e = let shorter = part_len front [] term rest e in absurd (omega arith)
turn front (b ∷ bs) term rest e =
    let shorter = part_len front (b ∷ bs) term rest e in
    let blanks = blanks_len rest in
    enough_turns (length (after_blanks rest)) (length bs) (front ++ term ∷ []) (after_blanks rest) (omega arith) (omega arith)
    ∙ sym (ap (λ found. found >>= λ part. parts_from (length bs) (front ++ part.0 ∷ []) (after_blanks part.1)) e)

-- the last turn
pub turn_err : (front : List Term) (bytes : List ℕ) (fault : RuleError) → (length bytes == 0) ≡ false → part_at front bytes ≡ Err fault → parts_from (length bytes) front bytes ≡ Err fault
turn_err front [] fault some e = absurd cc
turn_err front (b ∷ bs) fault some e = ap (λ found. found >>= λ part. parts_from (length bs) (front ++ part.0 ∷ []) (after_blanks part.1)) e

-- what terms weigh together
abbrev term_weight : Term → ℕ
term_weight (Asks condition) = condition_weight condition
term_weight (Eavesdrop flag) = 0

total-conditions_in : (terms : List Term) → sum_by condition_weight (conditions_in terms) ≡ sum_by term_weight terms
total-conditions_in [] = refl
total-conditions_in (Asks condition ∷ terms) = sum_by-cons condition_weight condition (conditions_in terms) ∙ ap (λ n. condition_weight condition + n) (total-conditions_in terms) ∙ sym (sum_by-cons term_weight (Asks condition) terms)
total-conditions_in (Eavesdrop flag ∷ terms) = let joined = sum_by-cons term_weight (Eavesdrop flag) terms in let rest = total-conditions_in terms in omega arith

slashes_le : (text : List ℕ) → slashes text ≤ length text
slashes_le [] = omega arith
slashes_le (b ∷ bs) =
    let one : cond (b == 47) 1 0 ≤ 1 = grind arith in
    let rest = slashes_le bs in
    let sum = sum_by-cons (λ (byte : ℕ). cond (byte == 47) 1 0) b bs in
    omega arith

relation_weight_le : (relation : Relation) (value : List ℕ) → relation_weight relation value ≤ 16 * length value
relation_weight_le NestedPath value = let h = slashes_le value in omega arith
relation_weight_le _ value = omega arith

-- a byte of a value weighs at most 17
term_weight_le : (term : Term) → term_weight term ≤ 24 + 17 * length (term_value term)
term_weight_le (Asks (Compares source relation value)) = let h = relation_weight_le relation value in omega arith
term_weight_le _ = omega arith

-- each byte of a text weighs at most 41
parts_total : (n : ℕ) (front : List Term) (bytes : List ℕ) (terms : List Term) → parts_from n front bytes ≡ Ok terms
    → sum_by term_weight terms ≤ sum_by term_weight front + 41 * length bytes
parts_total zero front bytes terms e = let same : front ≡ terms = cc in rw (← same) (omega arith)
parts_total (suc n) front [] terms e = let same : front ≡ terms = cc in rw (← same) (omega arith)
parts_total (suc n) front (b ∷ bs) terms e =
    let part = bind_ok (part_at front (b ∷ bs)) _ terms e in
    let more = parts_total n (front ++ part.0.0 ∷ []) (after_blanks part.0.1) terms part.2 in
    let joined = sum_by-append term_weight front (part.0.0 ∷ []) in
    let weighs = term_weight_le part.0.0 in
    let shorter = part_len front (b ∷ bs) part.0.0 part.0.1 part.1 in
    let blanks = blanks_len part.0.1 in
    omega arith

pub read_weight : (text : List ℕ) (terms : List Term) → length text ≤ 1024 → terms_at text ≡ Ok terms → 8 + sum_by condition_weight (conditions_in terms) ≤ 41992
read_weight text terms short e =
    let bound = parts_total (length (after_blanks text)) [] (after_blanks text) terms e in
    let blanks = blanks_len text in
    let same = total-conditions_in terms in
    omega arith
