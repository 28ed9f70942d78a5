-- Inner: a rule with its program, for the slot that a state gives.
use Rattle.std.specs.Prelude.{◌≡◌, ◌⊎◌, ◌<◌, ℕ, true, List, Result, Ok, Err}
use Rattle.match_rule.specs.RuleTree.{RuleTree, weight_of}
use Rattle.bpf_code.specs.declared.instruction.Ins.{Ins}
use Rattle.rule_compile.specs.declared.error.CompileError.{CompileError}
use Rattle.rule_compile.specs.declared.error.CompileError.TheVariants as compile_errors
use Rattle.entry_table.specs.CompiledRule.{CompiledRule, IsFit}
use Rattle.program_table.specs.declared.command.Reply.TheVariants.{Refused}
use Rattle.program_table.specs.declared.refusal.Refusal.{Refusal}
use Rattle.program_table.specs.State.{State}
use Rattle.program_table.specs.Does.{is_accepted, reply_to}
use Rattle.program_table.specs.RuleSlots.{add_of}
use Rattle.passes.specs.declared.error.BusError.{BusError}
use Rattle.passes.specs.declared.error.BusError.TheVariants as errors
use Rattle.passes.specs.Errors.{error_of}
use Rattle.passes.specs.Readings.{compiled_in}

module _ {M : Type 0} where
  -- the state refuses the rule, whatever its program is
  pub record IsKeptOut (s : State M) (connection : ℕ) (rule : RuleTree) (error : BusError) : Type 0 where
    pub refusal : Refusal
    pub error_is : error ≡ error_of refusal
    pub replies : (program : List Ins) → reply_to s (add_of s connection rule program) ≡ Refused refusal

  -- the rule would be added, but its program is too long
  pub record IsHeavy (s : State M) (connection : ℕ) (rule : RuleTree) (error : BusError) : Type 0 where
    pub error_is : error ≡ errors.TooLong
    pub weight : 4096 < weight_of rule
    pub fits : (program : List Ins) → is_accepted s (add_of s connection rule program) ≡ true

  abbrev pub Compiles : State M → ℕ → RuleTree → Result CompiledRule BusError → Type 0
  Compiles s connection rule (Ok compile_for) = (compile_for ≡ compiled_in s rule compile_for.program) × IsFit compile_for
  Compiles s connection rule (Err error) = IsKeptOut s connection rule error ⊎ (IsHeavy s connection rule error ⊎ (error ≡ errors.NoMemory))

-- the error of a rule that isn't compiled
abbrev pub compile_error : CompileError → BusError
compile_error compile_errors.TooLong = errors.TooLong
compile_error compile_errors.NoMemory = errors.NoMemory
