-- The slot for which a rule is compiled, before its program is there (own).
use Rattle.std.specs.Prelude.{◌≡◌, ℕ, true, List, Option, Result, Ok, Err}
use Rattle.bpf_code.specs.declared.instruction.Ins.{Ins}
use Rattle.match_rule.specs.RuleTree.{RuleTree, sender_name_of}
use Rattle.rule_compile.specs.Compiled.{IsSlotOf}
use Rattle.program_table.specs.declared.command.Command.{Command}
use Rattle.program_table.specs.declared.command.Command.TheVariants.{AddRule}
use Rattle.program_table.specs.declared.command.Reply.TheVariants.{Refused}
use Rattle.program_table.specs.declared.refusal.Refusal.{Refusal}
use Rattle.program_table.specs.Answers.{slot_asked}
use Rattle.program_table.specs.State.{State}
use Rattle.program_table.specs.Does.{is_accepted, reply_to}

module _ {M : Type 0} where
  -- the rule's AddRule with the slot that the state gives, and some program
  abbrev pub add_of : State M → ℕ → RuleTree → List Ins → Command M
  add_of s c rule program =
      AddRule c (record { rule = rule; slot = slot_asked (sender_name_of rule) s.registrations.slots; program = program })

  -- Whatever the rule's program is, it can be added with this slot, or this refuses it.
  abbrev pub IsRuleSlot : State M → ℕ → RuleTree → Result (Option ℕ) Refusal → Type 0
  IsRuleSlot s c rule (Ok slot) =
      (slot ≡ slot_asked (sender_name_of rule) s.registrations.slots) × IsSlotOf slot rule × ((program : List Ins) → is_accepted s (add_of s c rule program) ≡ true)
  IsRuleSlot s c rule (Err refusal) = (program : List Ins) → reply_to s (add_of s c rule program) ≡ Refused refusal
