-- Inner: the search for the slot of a rule, and the refusal of a claim.
use Rattle.std.specs.Prelude.{ℕ, List, Option, Some, None, is_none, Result, Ok, Err, nat_le, if◌then◌else◌}
use Rattle.match_rule.specs.RuleTree.{RuleTree, sender_name_of}
use Rattle.owners.specs.declared.error.ClaimError.{ClaimError}
use Rattle.owners.specs.declared.error.ClaimError.TheVariants as errors
use Rattle.program_table.specs.declared.refusal.Refusal.{Refusal}
use Rattle.program_table.specs.declared.refusal.Refusal.TheVariants as refusals
use Rattle.program_table.specs.declared.refusal.Refusal.TheVariants.{NamesFull, QueueFull}
use Rattle.program_table.specs.SlotNames.{slot_next}
use Rattle.program_table.specs.Registrations.{Registrations}
use Rattle.program_table.specs.Refusals.{◌>>=◌, refuse_if}
use Rattle.program_table.specs.Capacities.{rule_within}
use Rattle.program_table.specs.Answers.{has_room}
use Rattle.program_table.specs.State.{State}
use Rattle.program_table.specs.Does.{refuse_unconnected, max_commands}

-- as the code looks for it
abbrev pub slot_for : Option (List ℕ) → List (Option (List ℕ)) → Result (Option ℕ) Refusal
slot_for None slots = Ok None
slot_for (Some name) slots = do
  free ← refuse_if (is_none (slot_next name slots)) refusals.NamesFull
  Ok (slot_next name slots)

abbrev pub rule_slot : RuleTree → Registrations → Result (Option ℕ) Refusal
rule_slot rule r = do
  room ← has_room r
  slot_for (sender_name_of rule) r.slots

module _ {M : Type 0} where
  abbrev pub rule_slot_of : State M → ℕ → RuleTree → Result (Option ℕ) Refusal
  rule_slot_of s c rule =
      if nat_le max_commands s.commands then Err refusals.Closed
      else (refuse_unconnected c s >>= (λ there. rule_within s.capacity (sender_name_of rule) s.registrations >>= (λ within. rule_slot rule s.registrations)))

-- the refusal of a claim; a name that was read has no other
abbrev pub claim_refusal : ClaimError → Refusal
claim_refusal errors.NamesFull = NamesFull
claim_refusal errors.QueueFull = QueueFull
claim_refusal errors.BadName = QueueFull
claim_refusal errors.Reserved = QueueFull
