-- What is true of each state of the bus (own).
use Rattle.std.specs.Prelude.{◌≡◌, ℕ, ◌≤◌, ◌<◌, Bool, true, ◌&&◌, List, All, AllPairs, Option, Some, None, is_some, length, nat_eq, nat_le, slice_get}
use Rattle.std.specs.List.{list_all}
use Rattle.std.specs.Option.{option_eq}
use Rattle.std.specs.List.Sorted.{IsStrictlyIncreasing}
use Rattle.owners.specs.Queues.{Claim}
use Rattle.owners.specs.Registry.{max_names, max_claims}
use Rattle.entry_table.specs.declared.entry.Entry.{Entry}
use Rattle.entry_table.specs.declared.entry.Filter.{Filter}
use Rattle.entry_table.specs.declared.entry.Filter.TheVariants.{Rule, Attached}
use Rattle.program_table.specs.declared.connection.Connection.{Connection}
use Rattle.program_table.specs.Connections.{max_connections, numbers_of, is_connected}
use Rattle.program_table.specs.SlotNames.{slot_of, sender_asked, used_slots}
use Rattle.program_table.specs.Registrations.{Registrations}
use Rattle.program_table.specs.Answers.{max_entries}
use Rattle.program_table.specs.State.{State}

-- the slot that a rule was compiled for
abbrev pub slot_in : Filter → Option ℕ
slot_in (Rule compiled) = compiled.slot
slot_in (Attached program) = None

-- the name that is asked for as the sender has a slot, which is this one
abbrev pub is_own_slot : Option (List ℕ) → Option ℕ → List (Option (List ℕ)) → Bool
is_own_slot None slot slots = true
is_own_slot (Some name) slot slots = is_some (slot_of name slots) && option_eq nat_eq slot (slot_of name slots)

abbrev pub has_own_slot : List (Option (List ℕ)) → Entry → Bool
has_own_slot slots e = is_own_slot (sender_asked e.filter) (slot_in e.filter) slots

pub record AreRegistrations (r : Registrations) : Type 0 where
  -- there are as many slots as names that can have one, and no name has two
  pub slots : length r.slots ≡ max_names
  pub one_slot : (slot : ℕ) (name : List ℕ) → slice_get r.slots slot ≡ Some (Some name) → slot_of name r.slots ≡ Some slot
  -- a name with a claim has a slot, and an entry's rule was compiled for the slot of its sender name
  pub claimed : list_all (λ (c : Claim). is_some (slot_of c.name r.slots)) r.claims ≡ true
  pub own_slots : list_all (has_own_slot r.slots) r.entries ≡ true
  -- a name that is no longer used has none
  pub used : used_slots r.claims r.entries r.slots ≡ r.slots
  -- ids rise, and none is above the last one that was given
  pub rising : AllPairs (λ (e f : Entry). e.id < f.id) r.entries
  pub below_last : All (λ (e : Entry). e.id ≤ r.last_entry) r.entries
  pub few_entries : length r.entries ≤ max_entries
  pub few_claims : length r.claims ≤ max_claims

pub record IsState {M : Type 0} (s : State M) : Type 0 where
  -- numbers rise, and none is above the last one that was given
  pub rising : IsStrictlyIncreasing (numbers_of s.connections)
  pub below_last : All (λ n. n ≤ s.last_connection) (numbers_of s.connections)
  pub few : length s.connections ≤ max_connections
  -- each connection and each of its commands was counted
  pub numbered : s.last_connection ≤ s.commands
  pub counted : list_all (λ (c : Connection M). nat_le c.commands s.commands) s.connections ≡ true
  pub registrations : AreRegistrations s.registrations
  -- entries and claims are of connections
  pub of_connections : list_all (λ (e : Entry). is_connected e.connection s.connections) s.registrations.entries ≡ true
  pub claims_of_connections : list_all (λ (c : Claim). is_connected c.connection s.connections) s.registrations.claims ≡ true
