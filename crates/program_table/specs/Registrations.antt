-- What connections have registered: their claims on names, with the slots of the names, and their entries (D-Bus
-- Specification, "Message Bus Messages": RequestName, ReleaseName, AddMatch, RemoveMatch).
use Rattle.std.specs.Prelude.{ℕ, ◌+◌, not, List, [], ◌∷◌, ◌++◌, filter, Option, Some, None, replicate}
use Rattle.owners.specs.Queues.{Claim, without, without_all, after_requesting}
use Rattle.owners.specs.Registry.{max_names}
use Rattle.entry_table.specs.declared.entry.Entry.{Entry}
use Rattle.entry_table.specs.declared.entry.Filter.{Filter}
use Rattle.entry_table.specs.Entries.{is_of, is_entry}
use Rattle.program_table.specs.SlotNames.{with_slot, used_slots}

-- the claims in queue order; for each slot the name that has it; the entries by rising id, and the last id that was
-- given
pub record Registrations : Type 0 where
  pub claims : List Claim
  pub slots : List (Option (List ℕ))
  pub entries : List Entry
  pub last_entry : ℕ

-- no claim and no entry
abbrev pub no_registrations : Registrations
no_registrations = record { claims = []; slots = replicate max_names None; entries = []; last_entry = 0 }

-- the slots of names that are no longer used are free
abbrev pub settle_names : Registrations → Registrations
settle_names r = record r { slots = used_slots r.claims r.entries r.slots }

-- a new entry of a connection, with the next id
abbrev pub with_entry : ℕ → Filter → Registrations → Registrations
with_entry c filter r = record r {
  entries = r.entries ++ record { id = r.last_entry + 1; connection = c; filter = filter } ∷ [];
  last_entry = r.last_entry + 1;
}

-- a name that a rule asks for as the sender needs a slot
abbrev pub with_sender : Option (List ℕ) → Registrations → Registrations
with_sender None r = r
with_sender (Some name) r = record r { slots = with_slot name r.slots }

-- the connection's entry of this id is gone
abbrev pub without_entry : ℕ → Option ℕ → Registrations → Registrations
without_entry c None r = r
without_entry c (Some id) r = settle_names (record r { entries = filter (λ e. not (is_entry c id e)) r.entries })

-- the connection asks for the name, which needs a slot
abbrev pub with_request : List ℕ → ℕ → ℕ → Registrations → Registrations
with_request name c flags r = record r { claims = after_requesting name c flags r.claims; slots = with_slot name r.slots }

-- the connection's claim on the name is gone
abbrev pub without_claim : ℕ → Option (List ℕ) → Registrations → Registrations
without_claim c None r = r
without_claim c (Some name) r = settle_names (record r { claims = without name c r.claims })

-- all claims and entries of the connection are gone
abbrev pub without_all_of : ℕ → Registrations → Registrations
without_all_of c r = settle_names (record r { claims = without_all c r.claims; entries = filter (λ e. not (is_of c e)) r.entries })
