-- A rule, its slot and its program (own).
use Rattle.std.specs.Prelude.{ℕ, List, Option}
use Rattle.bpf_code.specs.declared.instruction.Ins.{Ins}
use Rattle.match_rule.specs.RuleTree.{RuleTree}
use Rattle.rule_compile.specs.Compiled.{IsSlotOf, IsCompiled}

-- a rule, the slot of its sender name, and the instructions of its program
pub record CompiledRule : Type 0 where
  pub rule : RuleTree
  pub slot : Option ℕ
  pub program : List Ins

-- the slot fits the rule, and the program is the rule's
pub record IsFit (compiled : CompiledRule) : Type 0 where
  pub slot : IsSlotOf compiled.slot compiled.rule
  pub program : IsCompiled compiled.rule compiled.slot compiled.program
