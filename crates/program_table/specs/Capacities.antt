-- How much a bus may have, of all connections together (own).
use Rattle.std.specs.Prelude.{ℕ, Bool, true, List, Option, Some, None, length, Result, Ok, nat_le, nat_lt, ◌&&◌}
use Rattle.owners.specs.Queues.{after_requesting}
use Rattle.program_table.specs.declared.capacity.Capacity.{Capacity}
use Rattle.program_table.specs.declared.refusal.Refusal.{Refusal}
use Rattle.program_table.specs.declared.refusal.Refusal.TheVariants as refusals
use Rattle.program_table.specs.SlotNames.{slot_next}
use Rattle.program_table.specs.Registrations.{Registrations}
use Rattle.program_table.specs.Refusals.{◌>>=◌, refuse_if}

-- what a bus may have that isn't told otherwise
abbrev pub standard_capacity : Capacity
standard_capacity = record { connections = 256; names = 1024; claims = 4096; entries = 16384 }

-- one entry more is within the capacity
abbrev pub entry_within : Capacity → Registrations → Result (Unit {0}) Refusal
entry_within most r = refuse_if (nat_le most.entries (length r.entries)) refusals.EntriesFull

-- no slot is free, or only one beyond the number of names; slots are given from the lowest on
abbrev pub is_beyond : ℕ → Option ℕ → Bool
is_beyond names None = true
is_beyond names (Some slot) = nat_le names slot

-- a slot for the name, if one is needed, is within the capacity
abbrev pub slot_within : Capacity → Option (List ℕ) → List (Option (List ℕ)) → Result (Unit {0}) Refusal
slot_within most None slots = Ok tt
slot_within most (Some name) slots = refuse_if (is_beyond most.names (slot_next name slots)) refusals.NamesFull

-- an entry with a rule, which has this name as its sender, if it has any, is within the capacity
abbrev pub rule_within : Capacity → Option (List ℕ) → Registrations → Result (Unit {0}) Refusal
rule_within most sender r = do
  few ← entry_within most r
  slot_within most sender r.slots

-- as many claims as there may be would become more
abbrev pub is_over : ℕ → ℕ → ℕ → Bool
is_over most now next = nat_le most now && nat_lt now next

-- a claim on the name is within the capacity
abbrev pub claim_within : Capacity → List ℕ → ℕ → ℕ → Registrations → Result (Unit {0}) Refusal
claim_within most name c flags r = do
  free ← slot_within most (Some name) r.slots
  refuse_if (is_over most.claims (length r.claims) (length (after_requesting name c flags r.claims))) refusals.QueueFull
