-- What `compile` finds, from what its steps answer.
use Rattle.std.proofs.Common.{◌≡◌, ◌⊎◌, ℕ, Bool, List, Option, Some, None, Result, Ok, Err, refl, sym, inl, inr}
use Rattle.std.specs.Result.{IsErrAnd, IfErr}
use Rattle.bpf_code.specs.declared.instruction.Ins.{Ins}
use Rattle.bpf_code.specs.declared.error.CodeError.{CodeError}
use Rattle.bpf_code.specs.Program.{WellFormed}
use Rattle.bpf_text.specs.Printing.{IsPrintFault}
use Rattle.bpf_text.specs.Source.{SourceText}
use Rattle.bpf_text.specs.Used.{with_unused_zero}
use Rattle.match_key.specs.declared.error.RuleError.{RuleError}
use Rattle.match_key.specs.declared.error.RuleError.TheVariants.{NoMemory}
use Rattle.match_rule.specs.RuleTree.{RuleTree, sender_name_of}
use Rattle.match_rule.specs.Grammar.{ReadsAs}
use Rattle.match_rule.specs.Reading.{rule_at}
use Rattle.summary.specs.Sets.{has_slot}
use Rattle.rule_compile.specs.declared.error.CompileError.{CompileError}
use Rattle.rule_compile.specs.Compiled.{AgreeOn, IsCompiled, IsRefusal}
use Rattle.command_line.specs.declared.error.Fault.{Fault}
use Rattle.command_line.specs.declared.error.Fault.TheVariants.{Memory}
use Rattle.command_line.specs.Errors.{fault_of_rule, fault_of_code}
use Rattle.dbusfan_tool.specs.Compiling.{IsRuleFault, no_rule, too_long, Compiles, refused, compiled, slot_for, fault_of_compile}
use Rattle.dbusfan_tool.proofs.StepFaults.{handed_on, rule_fault, refusal}
use Rattle.dbusfan_tool.proofs.UnusedFields.{ends_as_before, accepted_as_before}
use Rattle.dbusfan_tool.proofs.AcceptedTexts.{only_memory}

-- where slot 0 is among the slots exactly where the sender owns the rule's name
pub agree : (tree : RuleTree) (name : Option (List ℕ)) (owns : Bool) (slots : List ℕ) → sender_name_of tree ≡ name → has_slot slots 0 ≡ owns → AgreeOn tree (slot_for tree) (λ name. owns) slots
agree tree None owns slots is has = rw is tt
agree tree (Some name) owns slots is has = rw is (sym has)

module _ (rule : List ℕ) where
  abbrev NoProgram : Fault → Type 0
  NoProgram fault = IsRuleFault rule fault ⊎ (fault ≡ Memory)

  pub not_compiled : {A : Type 0} (found : Result A Fault) (fault : Fault) → IsErrAnd found (λ f. f ≡ fault) → NoProgram fault → IfErr found NoProgram
  not_compiled found fault is none = handed_on NoProgram found fault is none

  pub of_rule_fault : (error : RuleError) → ((error ≡ NoMemory) ⊎ (rule_at rule ≡ Err error)) → NoProgram (fault_of_rule error)
  of_rule_fault error is = rule_fault NoProgram (inr refl) rule (λ fault reads. inl (no_rule reads)) error is

  pub of_refusal : (tree : RuleTree) → ReadsAs rule tree → (error : CompileError) → IsRefusal tree error → NoProgram (fault_of_compile error)
  of_refusal tree reads error is = refusal NoProgram (inr refl) tree (λ long. inl (too_long reads long)) error is

  abbrev Fails : Fault → Type 0
  Fails fault = Compiles rule (Err fault) ⊎ (fault ≡ Memory)

  pub of_no_program : (fault : Fault) → NoProgram fault → Fails fault
  of_no_program fault (inl is) = inl (refused is)
  of_no_program fault (inr short) = inr short

  pub of_print_fault : (program : List Ins) (error : CodeError) → WellFormed program → IsPrintFault program error → Fails (fault_of_code error)
  of_print_fault program error fine is = rw (only_memory program error fine is) (inr refl)

  pub fails : {A : Type 0} (found : Result A Fault) (fault : Fault) → IsErrAnd found (λ f. f ≡ fault) → Fails fault → IfErr found Fails
  fails found fault is none = handed_on Fails found fault is none

  -- the program that the text names does what the compiled one does
  pub of_text : (tree : RuleTree) (text : List ℕ) (program : List Ins) → ReadsAs rule tree → SourceText text (with_unused_zero program) → WellFormed program → IsCompiled tree (slot_for tree) program → Compiles rule (Ok text)
  of_text tree text program reads source fine is =
      compiled reads source (accepted_as_before program fine)
      (λ bytes m slots owned v n valid set agrees ends. is bytes m slots owned v n valid set agrees (ends_as_before program _ v n ends))
