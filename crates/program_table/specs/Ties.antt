-- Inner: the names and the entries as they are kept. Each name's slot counts the rules that ask for it.
use Rattle.std.specs.Prelude.{◌≡◌, ℕ, true, List, Option, Some, None, map, option_map, count_by}
use Rattle.std.specs.List.{list_all}
use Rattle.owners.specs.declared.holding.Holding.{Holding}
use Rattle.owners.specs.Registry.{Registry, IsRegistry}
use Rattle.entry_table.specs.declared.entry.Entry.{Entry}
use Rattle.entry_table.specs.Entries.{Entries, AreEntries}
use Rattle.program_table.specs.SlotNames.{asks_for}
use Rattle.program_table.specs.Registrations.{Registrations}
use Rattle.program_table.specs.IsState.{has_own_slot}

abbrev pub slot_name : Option Holding → Option (List ℕ)
slot_name holding = option_map (λ (h : Holding). h.name) holding

abbrev pub slot_names : List (Option Holding) → List (Option (List ℕ))
slot_names slots = map slot_name slots

-- how many entries' rules ask for the name as the sender
abbrev pub rules_with : List ℕ → List Entry → ℕ
rules_with name entries = count_by (asks_for name) entries

abbrev pub holding_of : List Entry → Option (List ℕ) → Option Holding
holding_of entries None = None
holding_of entries (Some name) = Some (record { name = name; rules = rules_with name entries })

abbrev pub holdings : List Entry → List (Option (List ℕ)) → List (Option Holding)
holdings entries slots = map (holding_of entries) slots

-- what is registered, and the names of it
abbrev pub registrations_of : Registry → Entries → Registrations
registrations_of names all =
    record { claims = names.claims; slots = slot_names names.slots; entries = all.entries; last_entry = all.last }

pub record AreTied (names : Registry) (all : Entries) : Type 0 where
  pub registry : IsRegistry names
  pub entries : AreEntries all
  pub counted : holdings all.entries (slot_names names.slots) ≡ names.slots
  pub own_slots : list_all (has_own_slot (slot_names names.slots)) all.entries ≡ true
