-- The calls that are given a text or a program (own).
use Rattle.std.specs.Prelude.{◌≡◌, ◌⊎◌, ◌<◌, ℕ, true, false, List, Result, Err, IfOk}
use Rattle.bpf_code.specs.declared.instruction.Ins.{Ins}
use Rattle.bpf_verify.specs.declared.error.VerifyError.{VerifyError}
use Rattle.bpf_verify.specs.FirstFault.{IsFault}
use Rattle.bpf_code.specs.Program.{WellFormed}
use Rattle.match_key.specs.declared.error.RuleError.{RuleError}
use Rattle.match_key.specs.declared.error.RuleError.TheVariants as faults
use Rattle.match_rule.specs.Grammar.{ReadsAs}
use Rattle.match_rule.specs.Reading.{rule_at}
use Rattle.match_rule.specs.RuleTree.{RuleTree, sender_name_of, weight_of}
use Rattle.summary.specs.declared.edition.Edition.{Edition}
use Rattle.entry_table.specs.AttachedProgram.{AskedTexts}
use Rattle.entry_table.specs.CompiledRule.{CompiledRule, IsFit}
use Rattle.program_table.specs.declared.command.Command.TheVariants.{AddRule, RemoveRule, Attach}
use Rattle.program_table.specs.declared.command.Reply.{Reply}
use Rattle.program_table.specs.Answers.{slot_asked}
use Rattle.program_table.specs.State.{State}
use Rattle.program_table.specs.Does.{is_accepted}
use Rattle.program_table.specs.History.{after}
use Rattle.program_table.specs.RuleSlots.{add_of}
use Rattle.published.specs.Publication.{Publication}
use Rattle.passes.specs.declared.error.BusError.{BusError}
use Rattle.passes.specs.declared.error.BusError.TheVariants as errors
use Rattle.passes.specs.Passes.{PassState}
use Rattle.passes.specs.Calls.{Answers, IsStopped}
use Rattle.passes.specs.Admission.{IsAdmitted}

-- the error of a text that isn't read
abbrev pub rule_error : RuleError → BusError
rule_error faults.NoMemory = errors.NoMemory
rule_error fault = errors.Rule fault

module _ {M : Type 0} where
  -- the text isn't read: it is no rule, or memory was refused. Nothing was done.
  pub record IsUnread (text : List ℕ) (v : PassState M) (before : Publication M) (result : Result Reply BusError) (w : PassState M) (next : Publication M) : Type 0 where
    pub fault : RuleError
    pub why : (fault ≡ faults.NoMemory) ⊎ (rule_at text ≡ Err fault)
    pub answers : result ≡ Err (rule_error fault)
    pub same : w ≡ v
    pub published : next ≡ before

  -- the rule with the slot that the state gives to its sender name, and a program
  abbrev pub compiled_in : State M → RuleTree → List Ins → CompiledRule
  compiled_in s rule program = record { rule = rule; slot = slot_asked (sender_name_of rule) s.registrations.slots; program = program }

  -- The rule's program would be too long, which only that of a rule above this weight is. Nothing else keeps the rule
  -- out, and nothing was published.
  pub record IsTooLong (rule : RuleTree) (v : PassState M) (before : Publication M) (result : Result Reply BusError) (w : PassState M) (next : Publication M) : Type 0 where
    pub weight : 4096 < weight_of rule
    pub answers : result ≡ Err errors.TooLong
    pub admitted : IsAdmitted v before
    pub fits : (program : List Ins) → is_accepted (after before.history) (add_of (after before.history) v.connection rule program) ≡ true
    pub stopped : IsStopped v before w next

  -- Memory was refused to the compiler. Nothing shuts the pass out, nothing was published, and the bus goes on.
  pub record IsUncompiled (v : PassState M) (before : Publication M) (result : Result Reply BusError) (w : PassState M) (next : Publication M) : Type 0 where
    pub answers : result ≡ Err errors.NoMemory
    pub admitted : IsAdmitted v before
    pub stopped : IsStopped v before w next
    pub goes_on : next.has_ended ≡ false

  -- the rule is to be added with the program that it compiles to
  abbrev pub AddsRule : RuleTree → PassState M → Publication M → Result Reply BusError → PassState M → Publication M → Type 0
  AddsRule rule v before result w next =
      ((program : List Ins)
      × Answers false v before (AddRule v.connection (compiled_in (after before.history) rule program)) result w next
      × IfOk result (λ _. IsFit (compiled_in (after before.history) rule program)))
      ⊎ (IsTooLong rule v before result w next ⊎ IsUncompiled v before result w next)

  -- AddMatch: the text reads as a rule, which is to be added
  abbrev pub AddsMatch : List ℕ → PassState M → Publication M → Result Reply BusError → PassState M → Publication M → Type 0
  AddsMatch text v before result w next =
      ((rule : RuleTree) × ReadsAs text rule × AddsRule rule v before result w next) ⊎ IsUnread text v before result w next

  -- RemoveMatch: the text reads as a rule, which is to go
  abbrev pub RemovesMatch : List ℕ → PassState M → Publication M → Result Reply BusError → PassState M → Publication M → Type 0
  RemovesMatch text v before result w next =
      ((rule : RuleTree) × ReadsAs text rule × Answers false v before (RemoveRule v.connection rule) result w next) ⊎ IsUnread text v before result w next

  -- the program isn't taken: it isn't well formed, or memory was refused. Nothing was done.
  pub record IsUntaken (program : List Ins) (v : PassState M) (before : Publication M) (result : Result Reply BusError) (w : PassState M) (next : Publication M) : Type 0 where
    pub why : ((fault : VerifyError) × IsFault program fault × (result ≡ Err (errors.Program fault))) ⊎ (result ≡ Err errors.NoMemory)
    pub same : w ≡ v
    pub published : next ≡ before

  -- a well-formed program is to be attached, for the messages with these texts
  abbrev pub Attaches : Edition → List Ins → AskedTexts → PassState M → Publication M → Result Reply BusError → PassState M → Publication M → Type 0
  Attaches edition program messages v before result w next =
      (WellFormed program × Answers false v before (Attach v.connection (record { edition = edition; program = program; asked = messages })) result w next) ⊎ IsUntaken program v before result w next
