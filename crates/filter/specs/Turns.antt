-- Inner: one turn of the reader, over a blank or a token.
use Rattle.std.specs.Prelude.{ℕ, ◌+◌, List, Result, Ok, if◌then◌else◌}
use Rattle.filter.specs.declared.error.FaultAt.{FaultAt}
use Rattle.filter.specs.declared.error.StepError.{StepError}
use Rattle.filter.specs.declared.error.StepError.TheVariants as steps
use Rattle.filter.specs.declared.error.FilterError.{FilterError}
use Rattle.filter.specs.declared.error.FilterError.TheVariants as errors
use Rattle.filter.specs.Lexis.{is_blank}
use Rattle.filter.specs.Tokens.{Lexeme, fault_at, token_at}
use Rattle.filter.specs.Steps.{State, step}
use Rattle.filter.specs.Reading.{at_place, then_read}

-- over a token
abbrev pub over : State → ℕ → Lexeme × ℕ → Result (State × ℕ) FaultAt
over s place found = then_read (at_place place (step s found.0)) (λ t. Ok (t, place + 1 + found.1))

-- the state and the place after a byte, or after the token that it begins
abbrev pub turn : State → ℕ → ℕ → List ℕ → Result (State × ℕ) FaultAt
turn s place b rest = if is_blank b then Ok (s, place + 1) else then_read (token_at place b rest) (over s place)

-- an error of a step, with its place
abbrev pub error_at : ℕ → StepError → FilterError
error_at place (steps.Fault fault) = errors.Fault (fault_at fault place)
error_at place steps.NoMemory = errors.NoMemory
