-- Inner: what the code has of a run, as the definitions say it.
use Rattle.std.specs.Prelude.{ℕ, ◌<◌, Option, None, get_or}
use Rattle.bpf_code.specs.declared.operation.Arithmetic.{Arithmetic}
use Rattle.bpf_code.specs.declared.operation.Arithmetic.TheVariants.{ShiftLeft, ShiftRight}
use Rattle.bpf_code.specs.Effects.{Effect, SetA, SetX, SetWord, Skip, Finish}
use Rattle.bpf_code.specs.Steps.{State, Next, Goes, Stops}
use Rattle.bpf_trace.specs.declared.configuration.Configuration.{Configuration}
use Rattle.bpf_trace.specs.declared.configuration.Next as ways
use Rattle.bpf_trace.specs.declared.configuration.Next.TheVariants as way
use Rattle.bpf_trace.specs.declared.effect.Effect as doings
use Rattle.bpf_trace.specs.declared.effect.Effect.TheVariants as doing

abbrev pub state_of : Configuration → State
state_of c = record { place = c.place; a = c.a; x = c.x; words = λ k. get_or c.words k None }

abbrev pub next_of : ways.Next → Next
next_of (way.Goes c) = Goes (state_of c)
next_of (way.Stops v) = Stops v

abbrev pub effect_by : doings.Effect → Effect
effect_by (doing.SetA v) = SetA v
effect_by (doing.SetX v) = SetX v
effect_by (doing.SetWord v) = SetWord v
effect_by (doing.Skip n) = Skip n
effect_by (doing.Finish v) = Finish v

-- a scratch word that is set is one of the sixteen
abbrev pub IsWordFine : ℕ → doings.Effect → Type 0
IsWordFine k (doing.SetWord v) = k < 16
IsWordFine k _ = Unit {0}

-- a shift is by less than 32
abbrev pub IsAmountFine : Arithmetic → ℕ → Type 0
IsAmountFine ShiftLeft n = n < 32
IsAmountFine ShiftRight n = n < 32
IsAmountFine _ n = Unit {0}
