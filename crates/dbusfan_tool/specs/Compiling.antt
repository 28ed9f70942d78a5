-- What compiling a rule or a filter comes to (own).
use Rattle.std.specs.Prelude.{◌≡◌, ℕ, ◌<◌, List, Option, Result, Ok, Err}
use Rattle.std.specs.Option.{option_map}
use Rattle.bpf_code.specs.declared.instruction.Ins.{Ins}
use Rattle.bpf_code.specs.Program.{WellFormed}
use Rattle.bpf_text.specs.Source.{SourceText}
use Rattle.match_key.specs.declared.error.RuleError.{RuleError}
use Rattle.match_key.specs.declared.error.RuleError.TheVariants.{TooLong}
use Rattle.match_rule.specs.RuleTree.{RuleTree, sender_name_of, weight_of}
use Rattle.match_rule.specs.Grammar.{ReadsAs}
use Rattle.match_rule.specs.Reading.{rule_at}
use Rattle.rule_compile.specs.Compiled.{IsCompiled}
use Rattle.filter.specs.FilterTree.{FilterTree}
use Rattle.filter.specs.Grammar.{ReadsAs as ReadsAsFilter}
use Rattle.filter.specs.Reading.{filter_at}
use Rattle.filter.specs.Weights.{weight_of as filter_weight}
use Rattle.filter.specs.declared.error.FaultAt.{FaultAt}
use Rattle.filter_compile.specs.Compiled.{IsCompiled as IsCompiledFilter}
use Rattle.filter_compile.specs.declared.error.CompileError as of_filter
use Rattle.filter_compile.specs.declared.error.CompileError.TheVariants as filter_errors
use Rattle.rule_compile.specs.declared.error.CompileError.{CompileError}
use Rattle.rule_compile.specs.declared.error.CompileError.TheVariants as of_compile
use Rattle.command_line.specs.declared.error.Fault.{Fault}
use Rattle.command_line.specs.declared.error.Fault.TheVariants.{Rule, Filter, HeavyFilter, Memory}

-- the slot of a rule's well-known sender, if it asks for one
abbrev pub slot_for : RuleTree → Option ℕ
slot_for rule = option_map (λ name. 0) (sender_name_of rule)

-- Why a rule's text has no program: it is no rule, or the rule's program might become too long.
pub data IsRuleFault (rule : List ℕ) : Fault → Type 0 where
  no_rule : {fault : RuleError} → rule_at rule ≡ Err fault → IsRuleFault rule (Rule fault)
  too_long : {tree : RuleTree} → ReadsAs rule tree → 4096 < weight_of tree → IsRuleFault rule (Rule TooLong)

-- What `compile` finds for a rule's text: the text of a program that is accepted and that is the compiled rule.
pub data Compiles (rule : List ℕ) : Result (List ℕ) Fault → Type 0 where
  refused : {fault : Fault} → IsRuleFault rule fault → Compiles rule (Err fault)
  compiled : {tree : RuleTree} {text : List ℕ} {program : List Ins} → ReadsAs rule tree → SourceText text program → WellFormed program → IsCompiled tree (slot_for tree) program → Compiles rule (Ok text)

-- what it means for a command that a rule isn't compiled
abbrev pub fault_of_compile : CompileError → Fault
fault_of_compile of_compile.TooLong = Rule TooLong
fault_of_compile of_compile.NoMemory = Memory

-- Why an expression has no program: it is no filter, or a filter whose program might become too long.
pub data IsFilterFault (expression : List ℕ) : Fault → Type 0 where
  no_filter : {fault : FaultAt} → filter_at expression ≡ Err fault → IsFilterFault expression (Filter fault)
  too_heavy : {tree : FilterTree} → ReadsAsFilter expression tree → 4096 < filter_weight tree → IsFilterFault expression HeavyFilter

-- What `compile` finds for an expression: the text of a program that is accepted and that is the compiled filter, whose names
-- have the slots from 0 in the order in which the expression asks for them.
pub data CompilesFilter (expression : List ℕ) : Result (List ℕ) Fault → Type 0 where
  filter_refused : {fault : Fault} → IsFilterFault expression fault → CompilesFilter expression (Err fault)
  filter_compiled : {tree : FilterTree} {text : List ℕ} {program : List Ins} → ReadsAsFilter expression tree → SourceText text program → WellFormed program → IsCompiledFilter tree program → CompilesFilter expression (Ok text)

-- what it means for a command that a filter isn't compiled
abbrev pub fault_of_filter_compile : of_filter.CompileError → Fault
fault_of_filter_compile filter_errors.TooHeavy = HeavyFilter
fault_of_filter_compile filter_errors.NoMemory = Memory
