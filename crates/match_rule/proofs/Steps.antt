-- Reading a value byte for byte.
use Rattle.std.proofs.Common.{◌≡◌, ℕ, ◌+◌, ◌<◌, List, [], ◌∷◌, ◌++◌, length, get_or, drop, refl, sym, ap, ◌∙◌, append_assoc, arith, take, ◌-◌, length-drop}
use Rattle.std.specs.Prelude.{Result, Ok, Err, IsErrAnd}
use Rattle.std.proofs.lemmas.List.{at_drop_more, take_all}
use Rattle.match_key.specs.declared.error.RuleError.{RuleError}
use Rattle.match_key.specs.declared.error.RuleError.TheVariants.{NoMemory}
use Rattle.match_rule.specs.declared.quoting.Quoting.{Quoting}
use Rattle.match_rule.specs.declared.quoting.Step.TheVariants.{Skip, Take}
use Rattle.match_rule.specs.Bytes.{begins_with}
use Rattle.match_rule.specs.Grammar.{apostrophe}
use Rattle.match_rule.specs.Reading.{◌>>=◌, step, value_from, with_byte, Gives}

-- what reading gives after these bytes
abbrev pub with_front : List ℕ → Result (List ℕ × List ℕ) RuleError → Result (List ℕ × List ℕ) RuleError
with_front front read = read >>= λ found. Ok (front ++ found.0, found.1)

with_front-byte : (front : List ℕ) (b : ℕ) (read : Result (List ℕ × List ℕ) RuleError) → with_front (front ++ b ∷ []) read ≡ with_front front (read >>= λ found. Ok (with_byte b found))
with_front-byte front b (Ok found) = ap (λ (bytes : List ℕ). Ok (bytes, found.1)) (append_assoc front (b ∷ []) found.0)
with_front-byte front b (Err fault) = refl

pub past_skipped : (q next : Quoting) (front bytes : List ℕ) (i : ℕ) → i < length bytes → step q (get_or bytes i 0) (begins_with apostrophe (drop (i + 1) bytes)) ≡ Skip next → with_front front (value_from next (drop (i + 1) bytes)) ≡ with_front front (value_from q (drop i bytes))
past_skipped q next front bytes i lt e = sym (at_drop_more (λ rest. with_front front (value_from q rest)) bytes i 0 lt ∙ rw e refl)

pub past_taken : (q next : Quoting) (front bytes : List ℕ) (i : ℕ) → i < length bytes → step q (get_or bytes i 0) (begins_with apostrophe (drop (i + 1) bytes)) ≡ Take next → with_front (front ++ get_or bytes i 0 ∷ []) (value_from next (drop (i + 1) bytes)) ≡ with_front front (value_from q (drop i bytes))
past_taken q next front bytes i lt e =
    with_front-byte front (get_or bytes i 0) (value_from next (drop (i + 1) bytes))
    ∙ sym (at_drop_more (λ rest. with_front front (value_from q rest)) bytes i 0 lt ∙ rw e refl)

-- what is left after a place, as a slice of it
pub whole_rest : (bytes : List ℕ) (i : ℕ) → take (length bytes - i) (drop i bytes) ≡ drop i bytes
whole_rest bytes i = take_all (length bytes - i) (drop i bytes) (omega (arith, length-drop i bytes))

-- an error that is passed on
pub gives_err : {X Y : Type 0} (view : X → Y) (result : Result X RuleError) (read : Result Y RuleError) (fault : RuleError) → IsErrAnd result (λ f. f ≡ fault) → ((fault ≡ NoMemory → ⊥) → read ≡ Err fault) → Gives view result read
gives_err view (Ok x) read fault is evidence = absurd is
gives_err view (Err f) read fault is evidence = λ other. evidence (λ e. other (is ∙ e)) ∙ ap (λ x. Err x) (sym is)
