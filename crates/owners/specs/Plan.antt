-- Inner: a request's answer with what is done for it.
use Rattle.std.specs.Prelude.{◌≡◌, ◌≤◌, ℕ, List, Option, Some, Ok, find, length}
use Rattle.std.specs.List.{list_any}
use Rattle.owners.specs.declared.holding.Holding.{Holding}
use Rattle.owners.specs.declared.claim.SlotClaim.{SlotClaim}
use Rattle.owners.specs.declared.plan.Choice.{Choice}
use Rattle.owners.specs.declared.plan.Plan.{Plan}
use Rattle.owners.specs.Registry.{slot_next, request_answer, max_claims}
use Rattle.owners.specs.Kept.{registry, is_on_slot, is_slot_claim, step_of, step_done}

abbrev pub claim_at : ℕ → ℕ → ℕ → SlotClaim
claim_at slot connection flags = record { connection = connection; flags = flags; slot = slot }

-- What a request comes to: the slot of its name, the first claim on it, the step, and whether the connection has a claim there.
pub record IsChoice (claims : List SlotClaim) (slots : List (Option Holding)) (name : List ℕ) (connection flags : ℕ) (choice : Choice) : Type 0 where
  pub slot_is : slot_next name slots ≡ Some choice.slot
  pub owner_is : choice.owner ≡ find (is_on_slot choice.slot) claims
  pub step_is : choice.step ≡ step_of (find (is_on_slot choice.slot) claims) connection flags
  pub waits_is : choice.waits ≡ list_any (is_slot_claim choice.slot connection) claims

pub record IsPlan (claims : List SlotClaim) (slots : List (Option Holding)) (name : List ℕ) (connection flags : ℕ) (plan : Plan) : Type 0 where
  pub slot_is : slot_next name slots ≡ Some plan.slot
  pub step_is : plan.step ≡ step_of (find (is_on_slot plan.slot) claims) connection flags
  pub fits : length (step_done plan.step (claim_at plan.slot connection flags) claims) ≤ max_claims
  pub answer : request_answer name connection flags (registry claims slots) ≡ Ok plan.named
