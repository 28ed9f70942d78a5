-- Inner: some of a connection's entries are gone, and the names that nothing uses any more have no slot.
use Rattle.std.specs.Prelude.{◌≡◌, ℕ, true, not, List, filter}
use Rattle.std.specs.List.{list_any}
use Rattle.entry_table.specs.declared.entry.Entry.{Entry}
use Rattle.entry_table.specs.Entries.{is_of}
use Rattle.program_table.specs.SlotNames.{asks_for, used_slots}
use Rattle.program_table.specs.Registrations.{Registrations}

abbrev pub entries_not_of : ℕ → List Entry → List Entry
entries_not_of c entries = filter (λ (e : Entry). not (is_of c e)) entries

pub record AreSomeGone (c : ℕ) (before after : Registrations) : Type 0 where
  pub claims : after.claims ≡ before.claims
  pub last : after.last_entry ≡ before.last_entry
  pub others : entries_not_of c after.entries ≡ entries_not_of c before.entries
  pub fewer_users : (name : List ℕ) → list_any (asks_for name) after.entries ≡ true → list_any (asks_for name) before.entries ≡ true
  pub slots : after.slots ≡ used_slots before.claims after.entries before.slots
