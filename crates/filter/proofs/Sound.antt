-- What is read is in the grammar.
use Rattle.std.proofs.Common.{◌≡◌, ◌⊎◌, ℕ, ◌≤◌, ◌<◌, Bool, true, false, cond, List, [], ◌∷◌, ◌++◌, refl, sym, ap, ◌∙◌, subst, append_assoc, arith, inl, inr}
use Rattle.std.specs.Prelude.{Option, Some, None, Result, Ok, Err, codes, nat_eq}
use Rattle.std.specs.Str.{bytes_eq}
use Rattle.std.proofs.lemmas.Bool.{eqb-false}
use Rattle.std.proofs.lemmas.List.{append-nil}
use Rattle.std.proofs.lemmas.Slice.Eq.{bytes_eq-Decides}
use Rattle.match_key.specs.declared.arg_number.ArgNumber.{ArgNumber}
use Rattle.filter.specs.declared.error.Fault.{Fault}
use Rattle.filter.specs.declared.error.Fault.TheVariants as faults
use Rattle.filter.specs.declared.opening.Operand.{Operand}
use Rattle.filter.specs.declared.opening.Operand.TheVariants as operands
use Rattle.filter.specs.declared.opening.Opening.{Opening}
use Rattle.filter.specs.declared.opening.Opening.TheVariants as openings
use Rattle.filter.specs.declared.operator.Operator.{Operator}
use Rattle.filter.specs.declared.operator.Operator.TheVariants.{Equal, Unequal, Less, AtMost, Greater, AtLeast, Shares, Begins, Ends, Is}
use Rattle.filter.specs.declared.reader.Wanted.{Wanted}
use Rattle.filter.specs.declared.reader.Wanted.TheVariants as wanted
use Rattle.filter.specs.declared.test.Test.{Test}
use Rattle.filter.specs.declared.test.Test.TheVariants as tests
use Rattle.filter.specs.declared.token.Sign.TheVariants as signs
use Rattle.filter.specs.Tokens.{Lexeme, word, quoted, sign}
use Rattle.filter.specs.WordTables.{opening_of, has_test, type_named}
use Rattle.filter.specs.Operators.{operator_of, has_operator}
use Rattle.filter.specs.Values.{value_of}
use Rattle.filter.specs.Tests.{test_of}
use Rattle.filter.specs.FilterTree.{FilterTree, test}
use Rattle.filter.specs.Levels.{LevelTree, Nest, empty_level, open_in, max_open, filter_of, if_room, nest_one, nest_or, nest_close, nest_end, with_not, with_one}
use Rattle.filter.specs.Steps.{◌>>=◌, or_fault, State, wants, start, step, at_end, with_test, begin, is_connective, word_step, test_step, wanted_after, with_operator, operator_step, value_step, type_step, field_step, connect, more_step}
use Rattle.filter.specs.Grammar.{not_word, and_word, or_word, IsTest, whole, has, typed, compares, a_test, IsFilter}
use Rattle.filter.proofs.Derived.{run}
use Rattle.filter.proofs.SoFar.{IsWaiting, IsDone, nothing, nest_after_one, nest_after_not, nest_after_open, nest_after_and, nest_after_or, nest_after_close, nest_filter}

-- ---- what went well

bind_ok : {A B : Type 0} (r : Result A Fault) (f : A → Result B Fault) (y : B) → (r >>= f) ≡ Ok y → (x : A) × (r ≡ Ok x) × (f x ≡ Ok y)
bind_ok (Ok x) f y is = (x, refl, is)
bind_ok (Err fault) f y is = absurd (cc)

or_fault_ok : {A : Type 0} (fault : Fault) (o : Option A) (x : A) → or_fault fault o ≡ Ok x → o ≡ Some x
or_fault_ok fault None x is = absurd (cc)
or_fault_ok fault (Some y) x is = let same : y ≡ x = cc in ap Some same

if_ok : {A : Type 0} (b : Bool) (fault : Fault) (r : Result A Fault) (y : A) → cond b (Err fault) r ≡ Ok y → r ≡ Ok y
if_ok true fault r y is = absurd (cc)
if_ok false fault r y is = is

then_ok : {A : Type 0} (b : Bool) (fault : Fault) (x y : A) → cond b (Ok x) (Err fault) ≡ Ok y → (b ≡ true) × (x ≡ y)
then_ok true fault x y is = (refl, cc)
then_ok false fault x y is = absurd (cc)

chosen : {A : Type 0} (b : Bool) (x y z : A) → cond b x y ≡ z → ((b ≡ true) × (x ≡ z)) ⊎ ((b ≡ false) × (y ≡ z))
chosen true x y z is = inl (refl, is)
chosen false x y z is = inr (refl, is)

same_bytes : (bytes own : List ℕ) → bytes_eq bytes own ≡ true → word bytes ≡ word own
same_bytes bytes own is = ap word ((bytes_eq-Decides bytes own).0 is)

-- ---- what was read in each state

pub record AfterWord (nest : Nest) (opening : Opening) (front : List Lexeme) : Type 0 where
  pub before : List Lexeme
  pub first : List ℕ
  pub waits : IsWaiting nest before
  pub begins : opening_of first ≡ Ok opening
  pub tokens_are : front ≡ before ++ word first ∷ []

pub record AfterOperator (nest : Nest) (operand : Operand) (operator : Operator) (front : List Lexeme) : Type 0 where
  pub before : List Lexeme
  pub first : List ℕ
  pub op : Lexeme
  pub waits : IsWaiting nest before
  pub begins : opening_of first ≡ Ok (openings.Begins operand)
  pub operates : operator_of op ≡ Some operator
  pub fits : has_operator operand operator ≡ true
  pub tokens_are : front ≡ before ++ (word first ∷ op ∷ [])

abbrev pub IsReadBy : Wanted → Nest → List Lexeme → Type 0
IsReadBy wanted.Test nest front = IsWaiting nest front
IsReadBy (wanted.Operator operand) nest front = AfterWord nest (openings.Begins operand) front
IsReadBy (wanted.Value operand operator) nest front = AfterOperator nest operand operator front
IsReadBy (wanted.Type n) nest front = AfterOperator nest (operands.Arg n) Is front
IsReadBy wanted.Field nest front = AfterWord nest openings.Has front
IsReadBy wanted.More nest front = IsDone nest front

pub record IsRead (s : State) (front : List Lexeme) : Type 0 where
  pub few : open_in s.nest ≤ max_open
  pub tokens : IsReadBy s.wanted s.nest front

few_more : (nest : Nest) (f : FilterTree) → open_in nest ≤ max_open → open_in (nest_one nest f) ≤ max_open
few_more nest f few = omega arith

-- a whole test
tested : (nest : Nest) (before ts : List Lexeme) (front : List Lexeme) (t : Test) (s : State) → open_in nest ≤ max_open → IsWaiting nest before → IsTest ts t → front ≡ before ++ ts → with_test nest t ≡ s → IsRead s front
tested nest before ts front t s few waits is tokens same =
    subst (λ (x : State). IsRead x front) same
    (record { few = few_more nest (test t) few; tokens = subst (λ (x : List Lexeme). IsDone (nest_one nest (test t)) x) (sym tokens) (nest_after_one nest before ts (test t) waits (a_test is)) })

-- ---- a test is wanted

room_ok : (nest new n : Nest) → if_room nest new ≡ Ok n → open_in nest ≤ max_open → (open_in nest < max_open) × (new ≡ n)
room_ok nest new n is few = elim (chosen (nat_eq (open_in nest) max_open) (Err faults.Depth) (Ok new) (Ok n) is) as (λ _. (open_in nest < max_open) × (new ≡ n)) [
  | inl h ↦ absurd (let e = h.1 in cc)
  | inr h ↦ (let other = eqb-false (open_in nest) max_open h.0 in omega arith, let e = h.1 in cc)
]

begun : (nest : Nest) (front : List Lexeme) (bytes : List ℕ) (opening : Opening) → open_in nest ≤ max_open → IsWaiting nest front → opening_of bytes ≡ Ok opening → IsRead (begin nest opening) (front ++ word bytes ∷ [])
begun nest front bytes (openings.Whole t) few waits is = tested nest front (word bytes ∷ []) (front ++ word bytes ∷ []) t (with_test nest t) few waits (whole bytes is) refl refl
begun nest front bytes openings.Has few waits is = record { few = few; tokens = record { before = front; first = bytes; waits = waits; begins = is; tokens_are = refl } }
begun nest front bytes (openings.Begins operand) few waits is = record { few = few; tokens = record { before = front; first = bytes; waits = waits; begins = is; tokens_are = refl } }

word_keeps : (nest : Nest) (front : List Lexeme) (bytes : List ℕ) (t : State) → open_in nest ≤ max_open → IsWaiting nest front → word_step nest bytes ≡ Ok t → IsRead t (front ++ word bytes ∷ [])
word_keeps nest front bytes t few waits is =
    let deeper : Nest = record { outer = nest.outer; inner = with_not nest.inner } in
    elim (chosen (bytes_eq bytes (codes "not")) (if_room nest deeper >>= λ n. Ok (wants wanted.Test n)) (cond (is_connective bytes) (Err faults.NoTest) (opening_of bytes >>= λ opening. Ok (begin nest opening))) (Ok t) is) as (λ _. IsRead t (front ++ word bytes ∷ [])) [
      | inl h ↦
          let b = bind_ok (if_room nest deeper) (λ n. Ok (wants wanted.Test n)) t h.1 in
          let r = room_ok nest deeper b.0 b.1 few in
          let same : wants wanted.Test deeper ≡ t = ap (wants wanted.Test) r.1 ∙ (let e = b.2 in cc) in
          let read : IsRead (wants wanted.Test deeper) (front ++ not_word ∷ []) = record { few = omega (arith, r.0); tokens = nest_after_not nest front r.0 waits } in
          subst (λ (x : State). IsRead x (front ++ word bytes ∷ [])) same (subst (λ (l : Lexeme). IsRead (wants wanted.Test deeper) (front ++ l ∷ [])) (sym (same_bytes bytes (codes "not") h.0)) read)
      | inr h ↦
          let b = bind_ok (opening_of bytes) (λ opening. Ok (begin nest opening)) t (if_ok (is_connective bytes) faults.NoTest (opening_of bytes >>= λ opening. Ok (begin nest opening)) t h.1) in
          let same : begin nest b.0 ≡ t = let e = b.2 in cc in
          subst (λ (x : State). IsRead x (front ++ word bytes ∷ [])) same (begun nest front bytes b.0 few waits b.1)
    ]

test_keeps : (nest : Nest) (front : List Lexeme) (l : Lexeme) (t : State) → open_in nest ≤ max_open → IsWaiting nest front → test_step nest l ≡ Ok t → IsRead t (front ++ l ∷ [])
test_keeps nest front (word bytes) t few waits is = word_keeps nest front bytes t few waits is
test_keeps nest front (quoted inside) t few waits is = absurd (cc)
test_keeps nest front (sign signs.Opens) t few waits is =
    let deeper : Nest = record { outer = nest.inner ∷ nest.outer; inner = empty_level } in
    let b = bind_ok (if_room nest deeper) (λ n. Ok (wants wanted.Test n)) t is in
    let r = room_ok nest deeper b.0 b.1 few in
    let same : wants wanted.Test deeper ≡ t = ap (wants wanted.Test) r.1 ∙ (let e = b.2 in cc) in
    subst (λ (x : State). IsRead x (front ++ sign signs.Opens ∷ [])) same (record { few = omega (arith, r.0); tokens = nest_after_open nest front waits })
test_keeps nest front (sign signs.Closes) t few waits is = absurd (cc)
test_keeps nest front (sign signs.Equal) t few waits is = absurd (cc)
test_keeps nest front (sign signs.Unequal) t few waits is = absurd (cc)
test_keeps nest front (sign signs.Less) t few waits is = absurd (cc)
test_keeps nest front (sign signs.AtMost) t few waits is = absurd (cc)
test_keeps nest front (sign signs.Greater) t few waits is = absurd (cc)
test_keeps nest front (sign signs.AtLeast) t few waits is = absurd (cc)
test_keeps nest front (sign signs.Ampersand) t few waits is = absurd (cc)

-- ---- an operator

operated : (nest : Nest) (operand : Operand) (operator : Operator) (front : List Lexeme) → open_in nest ≤ max_open → AfterOperator nest operand operator front → IsRead (wants (wanted_after operand operator) nest) front
operated nest operands.Kind operator front few a = record { few = few; tokens = a }
operated nest (operands.Text source) operator front few a = record { few = few; tokens = a }
operated nest (operands.Scope scope) operator front few a = record { few = few; tokens = a }
operated nest (operands.Number source) operator front few a = record { few = few; tokens = a }
operated nest (operands.Arg n) Is front few a = record { few = few; tokens = a }
operated nest (operands.Arg n) Equal front few a = record { few = few; tokens = a }
operated nest (operands.Arg n) Unequal front few a = record { few = few; tokens = a }
operated nest (operands.Arg n) Less front few a = record { few = few; tokens = a }
operated nest (operands.Arg n) AtMost front few a = record { few = few; tokens = a }
operated nest (operands.Arg n) Greater front few a = record { few = few; tokens = a }
operated nest (operands.Arg n) AtLeast front few a = record { few = few; tokens = a }
operated nest (operands.Arg n) Shares front few a = record { few = few; tokens = a }
operated nest (operands.Arg n) Begins front few a = record { few = few; tokens = a }
operated nest (operands.Arg n) Ends front few a = record { few = few; tokens = a }

one_more : (front before ts : List Lexeme) (l : Lexeme) → front ≡ before ++ ts → front ++ l ∷ [] ≡ before ++ (ts ++ l ∷ [])
one_more front before ts l is = ap (λ x. x ++ l ∷ []) is ∙ append_assoc before ts (l ∷ [])

operator_keeps : (nest : Nest) (operand : Operand) (front : List Lexeme) (l : Lexeme) (t : State) → open_in nest ≤ max_open → AfterWord nest (openings.Begins operand) front → operator_step nest operand l ≡ Ok t → IsRead t (front ++ l ∷ [])
operator_keeps nest operand front l t few a is =
    let b = bind_ok (or_fault faults.BadOperator (operator_of l)) (λ op. with_operator nest operand op) t is in
    let operator : Operator = b.0 in
    let of : operator_of l ≡ Some operator = or_fault_ok faults.BadOperator (operator_of l) operator b.1 in
    let f = then_ok (has_operator operand operator) faults.BadOperator (wants (wanted_after operand operator) nest) t b.2 in
    let now : AfterOperator nest operand operator (front ++ l ∷ []) = record { before = a.before; first = a.first; op = l; waits = a.waits; begins = a.begins; operates = of; fits = f.0; tokens_are = one_more front a.before (word a.first ∷ []) l a.tokens_are } in
    subst (λ (x : State). IsRead x (front ++ l ∷ [])) f.1 (operated nest operand operator (front ++ l ∷ []) few now)

-- ---- a value, a type, a field

value_keeps : (nest : Nest) (operand : Operand) (operator : Operator) (front : List Lexeme) (l : Lexeme) (s : State) → open_in nest ≤ max_open → AfterOperator nest operand operator front → value_step nest operand operator l ≡ Ok s → IsRead s (front ++ l ∷ [])
value_keeps nest operand operator front l s few a is =
    let v = bind_ok (value_of l) (λ value. or_fault faults.BadValue (test_of operand operator value) >>= λ t. Ok (with_test nest t)) s is in
    let b = bind_ok (or_fault faults.BadValue (test_of operand operator v.0)) (λ t. Ok (with_test nest t)) s v.2 in
    let t : Test = b.0 in
    let of : test_of operand operator v.0 ≡ Some t = or_fault_ok faults.BadValue (test_of operand operator v.0) t b.1 in
    let same : with_test nest t ≡ s = let e = b.2 in cc in
    tested nest a.before (word a.first ∷ a.op ∷ l ∷ []) (front ++ l ∷ []) t s few a.waits (compares a.first a.op l operand operator v.0 a.begins a.operates a.fits v.1 of) (one_more front a.before (word a.first ∷ a.op ∷ []) l a.tokens_are) same

type_keeps : (nest : Nest) (n : ArgNumber) (front : List Lexeme) (l : Lexeme) (s : State) → open_in nest ≤ max_open → AfterOperator nest (operands.Arg n) Is front → type_step nest n l ≡ Ok s → IsRead s (front ++ l ∷ [])
type_keeps nest n front (quoted inside) s few a is = absurd (cc)
type_keeps nest n front (sign sg) s few a is = absurd (cc)
type_keeps nest n front (word bytes) s few a is =
    let b = bind_ok (or_fault faults.BadType (type_named bytes)) (λ type. Ok (with_test nest (tests.IsType n type))) s is in
    let of : type_named bytes ≡ Some b.0 = or_fault_ok faults.BadType (type_named bytes) b.0 b.1 in
    let same : with_test nest (tests.IsType n b.0) ≡ s = let e = b.2 in cc in
    tested nest a.before (word a.first ∷ a.op ∷ word bytes ∷ []) (front ++ word bytes ∷ []) (tests.IsType n b.0) s few a.waits (typed a.first bytes a.op n b.0 a.begins a.operates of) (one_more front a.before (word a.first ∷ a.op ∷ []) (word bytes) a.tokens_are) same

field_keeps : (nest : Nest) (front : List Lexeme) (l : Lexeme) (s : State) → open_in nest ≤ max_open → AfterWord nest openings.Has front → field_step nest l ≡ Ok s → IsRead s (front ++ l ∷ [])
field_keeps nest front (quoted inside) s few a is = absurd (cc)
field_keeps nest front (sign sg) s few a is = absurd (cc)
field_keeps nest front (word bytes) s few a is =
    let b = bind_ok (has_test bytes) (λ t. Ok (with_test nest t)) s is in
    let same : with_test nest b.0 ≡ s = let e = b.2 in cc in
    tested nest a.before (word a.first ∷ word bytes ∷ []) (front ++ word bytes ∷ []) b.0 s few a.waits (has a.first bytes a.begins b.1) (one_more front a.before (word a.first ∷ []) (word bytes) a.tokens_are) same

-- ---- more

connect_keeps : (nest : Nest) (front : List Lexeme) (bytes : List ℕ) (t : State) → open_in nest ≤ max_open → IsDone nest front → connect nest bytes ≡ Ok t → IsRead t (front ++ word bytes ∷ [])
connect_keeps nest front bytes t few h is = elim (chosen (bytes_eq bytes (codes "and")) (Ok (wants wanted.Test nest)) (cond (bytes_eq bytes (codes "or")) (Ok (wants wanted.Test (nest_or nest))) (Err faults.NoConnective)) (Ok t) is) as (λ _. IsRead t (front ++ word bytes ∷ [])) [
  | inl c ↦
      let same : wants wanted.Test nest ≡ t = let e = c.1 in cc in
      let read : IsRead (wants wanted.Test nest) (front ++ and_word ∷ []) = record { few = few; tokens = nest_after_and nest front h } in
      subst (λ (x : State). IsRead x (front ++ word bytes ∷ [])) same (subst (λ (l : Lexeme). IsRead (wants wanted.Test nest) (front ++ l ∷ [])) (sym (same_bytes bytes (codes "and") c.0)) read)
  | inr c ↦
      let f = then_ok (bytes_eq bytes (codes "or")) faults.NoConnective (wants wanted.Test (nest_or nest)) t c.1 in
      let read : IsRead (wants wanted.Test (nest_or nest)) (front ++ or_word ∷ []) = record { few = few; tokens = nest_after_or nest front h } in
      subst (λ (x : State). IsRead x (front ++ word bytes ∷ [])) f.1 (subst (λ (l : Lexeme). IsRead (wants wanted.Test (nest_or nest)) (front ++ l ∷ [])) (sym (same_bytes bytes (codes "or") f.0)) read)
]

close_keeps : (outer : List LevelTree) (inner : LevelTree) (front : List Lexeme) (t : State) → open_in (record { outer = outer; inner = inner }) ≤ max_open → IsDone (record { outer = outer; inner = inner }) front → (nest_close (record { outer = outer; inner = inner }) >>= λ n. Ok (wants wanted.More n)) ≡ Ok t → IsRead t (front ++ sign signs.Closes ∷ [])
close_keeps [] inner front t few h is = absurd (cc)
close_keeps (l ∷ ls) inner front t few h is =
    let after : Nest = record { outer = ls; inner = with_one l (filter_of inner) } in
    let same : wants wanted.More after ≡ t = cc in
    subst (λ (x : State). IsRead x (front ++ sign signs.Closes ∷ [])) same (record { few = omega arith; tokens = nest_after_close l ls inner front (omega arith) h })

more_keeps : (nest : Nest) (front : List Lexeme) (l : Lexeme) (t : State) → open_in nest ≤ max_open → IsDone nest front → more_step nest l ≡ Ok t → IsRead t (front ++ l ∷ [])
more_keeps nest front (word bytes) t few h is = connect_keeps nest front bytes t few h is
more_keeps nest front (quoted inside) t few h is = absurd (cc)
more_keeps nest front (sign signs.Closes) t few h is = close_keeps nest.outer nest.inner front t few h is
more_keeps nest front (sign signs.Opens) t few h is = absurd (cc)
more_keeps nest front (sign signs.Equal) t few h is = absurd (cc)
more_keeps nest front (sign signs.Unequal) t few h is = absurd (cc)
more_keeps nest front (sign signs.Less) t few h is = absurd (cc)
more_keeps nest front (sign signs.AtMost) t few h is = absurd (cc)
more_keeps nest front (sign signs.Greater) t few h is = absurd (cc)
more_keeps nest front (sign signs.AtLeast) t few h is = absurd (cc)
more_keeps nest front (sign signs.Ampersand) t few h is = absurd (cc)

-- ---- any token, and all

keeps_by : (it : Wanted) (nest : Nest) (front : List Lexeme) (l : Lexeme) (t : State) → open_in nest ≤ max_open → IsReadBy it nest front → step (wants it nest) l ≡ Ok t → IsRead t (front ++ l ∷ [])
keeps_by wanted.Test nest front l t few r is = test_keeps nest front l t few r is
keeps_by (wanted.Operator operand) nest front l t few r is = operator_keeps nest operand front l t few r is
keeps_by (wanted.Value operand operator) nest front l t few r is = value_keeps nest operand operator front l t few r is
keeps_by (wanted.Type n) nest front l t few r is = type_keeps nest n front l t few r is
keeps_by wanted.Field nest front l t few r is = field_keeps nest front l t few r is
keeps_by wanted.More nest front l t few r is = more_keeps nest front l t few r is

end_filter : (outer : List LevelTree) (inner : LevelTree) (front : List Lexeme) (f : FilterTree) → IsDone (record { outer = outer; inner = inner }) front → nest_end (record { outer = outer; inner = inner }) ≡ Ok f → IsFilter 0 front f
end_filter [] inner front f h is = let same : filter_of inner ≡ f = cc in subst (λ (g : FilterTree). IsFilter 0 front g) same (nest_filter inner front h)
end_filter (l ∷ ls) inner front f h is = absurd (cc)

ended_filter : (it : Wanted) (nest : Nest) (front : List Lexeme) (f : FilterTree) → IsReadBy it nest front → at_end (wants it nest) ≡ Ok f → IsFilter 0 front f
ended_filter wanted.More nest front f r is = end_filter nest.outer nest.inner front f r is
ended_filter wanted.Test nest front f r is = absurd (cc)
ended_filter (wanted.Operator operand) nest front f r is = absurd (cc)
ended_filter (wanted.Value operand operator) nest front f r is = absurd (cc)
ended_filter (wanted.Type n) nest front f r is = absurd (cc)
ended_filter wanted.Field nest front f r is = absurd (cc)

read_on : (s : State) (front ls : List Lexeme) (f : FilterTree) → IsRead s front → run s ls ≡ Ok f → IsFilter 0 (front ++ ls) f
read_on s front [] f r is = subst (λ (ts : List Lexeme). IsFilter 0 ts f) (sym (append-nil front)) (ended_filter s.wanted s.nest front f r.tokens is)
read_on s front (l ∷ ls) f r is =
    let b = bind_ok (step s l) (λ t. run t ls) f is in
    let next : IsRead b.0 (front ++ l ∷ []) = keeps_by s.wanted s.nest front l b.0 r.few r.tokens b.1 in
    subst (λ (ts : List Lexeme). IsFilter 0 ts f) (append_assoc front (l ∷ []) ls) (read_on b.0 (front ++ l ∷ []) ls f next b.2)

-- what is read is in the grammar
pub read_filter : (ls : List Lexeme) (f : FilterTree) → run start ls ≡ Ok f → IsFilter 0 ls f
read_filter ls f is = read_on start [] ls f (record { few = omega arith; tokens = record { outer_tokens = []; inner_tokens = []; around = refl; within = nothing 0; tokens_are = refl } }) is
