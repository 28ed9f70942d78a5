-- Inner: the program of a rule, before it is lowered.
use Rattle.std.specs.Prelude.{ℕ, List, Option, unwrap_or}
use Rattle.bpf_code.specs.declared.instruction.Ins.{Ins}
use Rattle.match_rule.specs.RuleTree.{RuleTree}
use Rattle.rule_compile.specs.RuleCode.{rule_code}

-- the program that tests all of a rule with its slot, whose jumps may go over any number of instructions
unfoldable pub whole_program : RuleTree → Option ℕ → List Ins
whole_program rule slot = rule_code (unwrap_or slot 0) rule
