-- Reading a rule's text from left to right, with the first fault that is met (own; which texts are rules is in
-- Grammar.antt).
use Rattle.std.specs.Prelude.{◌≡◌, ◌≢◌, ℕ, zero, suc, Bool, List, [], ◌∷◌, ◌++◌, length, Option, Some, None, option_map, Result, Ok, Err, nat_lt, ◌==◌, if◌then◌else◌}
use Rattle.match_key.specs.declared.error.RuleError.{RuleError}
use Rattle.match_key.specs.declared.error.RuleError.TheVariants.{TooLong, UnknownKey, KeyTwice, BadValue, Unquoted, PathTwice, NoMemory}
use Rattle.match_key.specs.declared.key.Key.{Key}
use Rattle.match_rule.specs.declared.quoting.Quoting.{Quoting}
use Rattle.match_rule.specs.declared.quoting.Quoting.TheVariants.{Outside, Inside, Escaped}
use Rattle.match_rule.specs.declared.quoting.Step.{Step}
use Rattle.match_rule.specs.declared.quoting.Step.TheVariants.{End, Skip, Take}
use Rattle.match_rule.specs.declared.term.Term.{Term}
use Rattle.match_key.specs.Key.{key_named}
use Rattle.match_rule.specs.Condition.{term_with, has_key, has_path}
use Rattle.match_rule.specs.RuleTree.{RuleTree}
use Rattle.match_rule.specs.Grammar.{is_blank, apostrophe, backslash, comma, equals, max_len, rule_with}
use Rattle.match_rule.specs.Bytes.{begins_with}

infixl 10 ◌>>=◌
abbrev pub ◌>>=◌ : {A B : Type 0} → Result A RuleError → (A → Result B RuleError) → Result B RuleError
(Ok x) >>= f = f x
(Err fault) >>= f = Err fault

-- What a function returned, seen by view, is what reading gives, unless memory ran out.
abbrev pub Gives : {X Y : Type 0} → (X → Y) → Result X RuleError → Result Y RuleError → Type 0
Gives view (Ok x) read = read ≡ Ok (view x)
Gives view (Err fault) read = fault ≢ NoMemory → read ≡ Err fault

-- the bytes without the blanks in front
abbrev pub after_blanks : List ℕ → List ℕ
after_blanks [] = []
after_blanks (b ∷ bs) = if is_blank b then after_blanks bs else b ∷ bs

abbrev pub with_byte : ℕ → List ℕ × List ℕ → List ℕ × List ℕ
with_byte b found = (b ∷ found.0, found.1)

-- the bytes up to the first `=`, and those after it, where no comma stands before it
abbrev pub word_at : List ℕ → Option (List ℕ × List ℕ)
word_at [] = None
word_at (b ∷ bs) = if b == equals then Some ([], bs) else if b == comma then None else option_map (with_byte b) (word_at bs)

-- what a byte of a value does; the last is whether an apostrophe follows it
abbrev pub step : Quoting → ℕ → Bool → Step
step Outside b follows =
    if b == comma then End
    else if b == apostrophe then Skip Inside
    else if b == backslash then (if follows then Skip Escaped else Take Outside)
    else Take Outside
step Inside b follows = if b == apostrophe then Skip Outside else Take Inside
step Escaped b follows = Take Outside

-- the end of the text: a section has to be closed
abbrev pub value_ended : Quoting → Result (List ℕ × List ℕ) RuleError
value_ended Inside = Err Unquoted
value_ended _ = Ok ([], [])

-- what comes of a step over a byte, with the bytes after it and what reading them gives
abbrev pub after_step : Step → ℕ → List ℕ → (Quoting → Result (List ℕ × List ℕ) RuleError) → Result (List ℕ × List ℕ) RuleError
after_step End b bs rest = Ok ([], bs)
after_step (Skip next) b bs rest = rest next
after_step (Take next) b bs rest = rest next >>= λ found. Ok (with_byte b found)

-- a value up to its comma or the end, and what follows
abbrev pub value_from : Quoting → List ℕ → Result (List ℕ × List ℕ) RuleError
value_from quoting [] = value_ended quoting
value_from quoting (b ∷ bs) = after_step (step quoting b (begins_with apostrophe bs)) b bs (λ next. value_from next bs)

abbrev pub or_fault : {A : Type 0} → RuleError → Option A → Result A RuleError
or_fault fault None = Err fault
or_fault fault (Some x) = Ok x

-- a known key, and what follows its `=`
unfoldable pub key_at : List ℕ → Result (Key × List ℕ) RuleError
key_at bytes = do
  word ← or_fault UnknownKey (word_at bytes)
  key ← key_named word.0
  Ok (key, word.1)

-- a key that a rule may not have beside those in front
abbrev pub own_key : List Term → Key → Result Key RuleError
own_key front key = if has_key key front then Err KeyTwice else if has_path key front then Err PathTwice else Ok key

-- a part after these terms, and what follows it and its comma
unfoldable pub part_at : List Term → List ℕ → Result (Term × List ℕ) RuleError
part_at front bytes = do
  key ← key_at bytes
  own ← own_key front key.0
  value ← value_from Outside key.1
  term ← or_fault BadValue (term_with own value.0)
  Ok (term, value.1)

-- The parts after these terms, from a place after blanks. Each has at least a byte, so that as many turns as there are
-- bytes are enough.
abbrev pub parts_from : ℕ → List Term → List ℕ → Result (List Term) RuleError
parts_from zero front bytes = Ok front
parts_from (suc turns) front [] = Ok front
parts_from (suc turns) front (b ∷ bs) = part_at front (b ∷ bs) >>= λ part. parts_from turns (front ++ part.0 ∷ []) (after_blanks part.1)

-- the terms of a text that isn't too long
abbrev pub terms_at : List ℕ → Result (List Term) RuleError
terms_at text = parts_from (length (after_blanks text)) [] (after_blanks text)

-- the rule, or the first fault
abbrev pub rule_at : List ℕ → Result RuleTree RuleError
rule_at text =
    if nat_lt max_len (length text) then Err TooLong
    else (terms_at text >>= λ terms. Ok (rule_with terms))
