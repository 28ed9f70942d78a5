-- Reading an expression from token to token: what is wanted, and what a token does then (own).
use Rattle.std.specs.Prelude.{ℕ, Bool, ◌||◌, List, Option, Some, None, Result, Ok, Err, codes, if◌then◌else◌}
use Rattle.std.specs.Str.{bytes_eq}
use Rattle.match_key.specs.declared.arg_number.ArgNumber.{ArgNumber}
use Rattle.filter.specs.declared.error.Fault.{Fault}
use Rattle.filter.specs.declared.error.Fault.TheVariants.{NoTest, BadOperator, BadValue, BadType, BadField, NoConnective}
use Rattle.filter.specs.declared.token.Sign.TheVariants.{Opens, Closes}
use Rattle.filter.specs.declared.test.Test.{Test}
use Rattle.filter.specs.declared.test.Test.TheVariants as tests
use Rattle.filter.specs.declared.opening.Operand.{Operand}
use Rattle.filter.specs.declared.opening.Operand.TheVariants as operands
use Rattle.filter.specs.declared.opening.Opening.{Opening}
use Rattle.filter.specs.declared.opening.Opening.TheVariants as openings
use Rattle.filter.specs.declared.operator.Operator.{Operator}
use Rattle.filter.specs.declared.operator.Operator.TheVariants.{Is}
use Rattle.filter.specs.declared.reader.Wanted.{Wanted}
use Rattle.filter.specs.declared.reader.Wanted.TheVariants as wanted
use Rattle.filter.specs.Tokens.{Lexeme, word, sign}
use Rattle.filter.specs.WordTables.{opening_of, has_test, type_named}
use Rattle.filter.specs.Operators.{operator_of, has_operator}
use Rattle.filter.specs.Values.{value_of}
use Rattle.filter.specs.Tests.{test_of}
use Rattle.filter.specs.FilterTree.{FilterTree, test}
use Rattle.filter.specs.Levels.{Nest, empty_nest, nest_open, nest_not, nest_one, nest_or, nest_close, nest_end}

infixl 10 ◌>>=◌
abbrev pub ◌>>=◌ : {A B : Type 0} → Result A Fault → (A → Result B Fault) → Result B Fault
(Ok x) >>= f = f x
(Err fault) >>= f = Err fault

abbrev pub or_fault : {A : Type 0} → Fault → Option A → Result A Fault
or_fault fault None = Err fault
or_fault fault (Some x) = Ok x

-- what is wanted, and what was read
pub record State : Type 0 where
  pub wanted : Wanted
  pub nest : Nest

abbrev pub wants : Wanted → Nest → State
wants it nest = record { wanted = it; nest = nest }

abbrev pub start : State
start = wants wanted.Test empty_nest

-- after a test
abbrev pub with_test : Nest → Test → State
with_test nest t = wants wanted.More (nest_one nest (test t))

-- ---- a test is wanted

abbrev pub begin : Nest → Opening → State
begin nest (openings.Whole t) = with_test nest t
begin nest openings.Has = wants wanted.Field nest
begin nest (openings.Begins operand) = wants (wanted.Operator operand) nest

abbrev pub is_connective : List ℕ → Bool
is_connective bytes = bytes_eq bytes (codes "and") || bytes_eq bytes (codes "or")

abbrev pub word_step : Nest → List ℕ → Result State Fault
word_step nest bytes =
    if bytes_eq bytes (codes "not") then (nest_not nest >>= λ n. Ok (wants wanted.Test n))
    else if is_connective bytes then Err NoTest
    else (opening_of bytes >>= λ opening. Ok (begin nest opening))

abbrev pub test_step : Nest → Lexeme → Result State Fault
test_step nest (word bytes) = word_step nest bytes
test_step nest (sign Opens) = nest_open nest >>= λ n. Ok (wants wanted.Test n)
test_step nest _ = Err NoTest

-- ---- an operator and a value are wanted

abbrev pub wanted_after : Operand → Operator → Wanted
wanted_after (operands.Arg n) Is = wanted.Type n
wanted_after operand op = wanted.Value operand op

abbrev pub with_operator : Nest → Operand → Operator → Result State Fault
with_operator nest operand op = if has_operator operand op then Ok (wants (wanted_after operand op) nest) else Err BadOperator

abbrev pub operator_step : Nest → Operand → Lexeme → Result State Fault
operator_step nest operand lexeme = or_fault BadOperator (operator_of lexeme) >>= λ op. with_operator nest operand op

abbrev pub value_step : Nest → Operand → Operator → Lexeme → Result State Fault
value_step nest operand op lexeme = value_of lexeme >>= λ value. or_fault BadValue (test_of operand op value) >>= λ t. Ok (with_test nest t)

-- ---- a type or a field is wanted

abbrev pub type_step : Nest → ArgNumber → Lexeme → Result State Fault
type_step nest n (word bytes) = or_fault BadType (type_named bytes) >>= λ type. Ok (with_test nest (tests.IsType n type))
type_step nest n _ = Err BadType

abbrev pub field_step : Nest → Lexeme → Result State Fault
field_step nest (word bytes) = has_test bytes >>= λ t. Ok (with_test nest t)
field_step nest _ = Err BadField

-- ---- more is wanted

abbrev pub connect : Nest → List ℕ → Result State Fault
connect nest bytes =
    if bytes_eq bytes (codes "and") then Ok (wants wanted.Test nest)
    else if bytes_eq bytes (codes "or") then Ok (wants wanted.Test (nest_or nest))
    else Err NoConnective

abbrev pub more_step : Nest → Lexeme → Result State Fault
more_step nest (word bytes) = connect nest bytes
more_step nest (sign Closes) = nest_close nest >>= λ n. Ok (wants wanted.More n)
more_step nest _ = Err NoConnective

-- ---- any token, and the end

abbrev pub step_by : Wanted → Nest → Lexeme → Result State Fault
step_by wanted.Test nest lexeme = test_step nest lexeme
step_by (wanted.Operator operand) nest lexeme = operator_step nest operand lexeme
step_by (wanted.Value operand op) nest lexeme = value_step nest operand op lexeme
step_by (wanted.Type n) nest lexeme = type_step nest n lexeme
step_by wanted.Field nest lexeme = field_step nest lexeme
step_by wanted.More nest lexeme = more_step nest lexeme

-- after one more token
abbrev pub step : State → Lexeme → Result State Fault
step r lexeme = step_by r.wanted r.nest lexeme

abbrev pub ended_by : Wanted → Nest → Result FilterTree Fault
ended_by wanted.Test nest = Err NoTest
ended_by (wanted.Operator operand) nest = Err BadOperator
ended_by (wanted.Value operand op) nest = Err BadValue
ended_by (wanted.Type n) nest = Err BadType
ended_by wanted.Field nest = Err BadField
ended_by wanted.More nest = nest_end nest

-- the filter, at the end
abbrev pub at_end : State → Result FilterTree Fault
at_end r = ended_by r.wanted r.nest
