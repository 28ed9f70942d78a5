-- Inner: the search for the oldest entry that is wanted.
use Rattle.std.specs.Prelude.{ℕ, ◌≤◌, ◌<◌, ◌≡◌, Bool, true, false, not, ◌&&◌, List, [], ◌∷◌, map, reverse, length, Option, Some, None, ◌==◌, nat_lt, if◌then◌else◌}
use Rattle.entry_table.specs.declared.entry.Entry.{Entry}
use Rattle.entry_table.specs.declared.search.Wanted.{Wanted}
use Rattle.entry_table.specs.declared.search.Wanted.TheVariants.{Any, Id, EqualRule, Attachment, RuleAfter}
use Rattle.entry_table.specs.Entries.{is_of, is_rule, is_attached}
use Rattle.entry_table.specs.PlacedEntries.{Placed}

-- the entry is what is wanted, whoever has it
abbrev pub suits : Wanted → Entry → Bool
suits Any e = true
suits (Id id) e = e.id == id
suits (EqualRule rule) e = is_rule rule.now e.filter
suits (Attachment id) e = e.id == id && is_attached e.filter
suits (RuleAfter id) e = nat_lt id e.id && not (is_attached e.filter)

abbrev pub is_wanted : Wanted → ℕ → Entry → Bool
is_wanted wanted connection e = is_of connection e && suits wanted e

-- the entry at a place is wanted
abbrev pub is_wanted_in : Wanted → ℕ → Option Entry → Bool
is_wanted_in wanted connection None = false
is_wanted_in wanted connection (Some e) = is_wanted wanted connection e

abbrev pub or_place : Option ℕ → Option ℕ → Option ℕ
or_place (Some place) other = Some place
or_place None other = other

-- the last place that passes
abbrev pub last_place : (ℕ → Bool) → List ℕ → Option ℕ
last_place test [] = None
last_place test (x ∷ xs) = or_place (last_place test xs) (if test x then Some x else None)

-- the entries, the oldest first
abbrev pub entries_of : List Placed → List Entry
entries_of held = reverse (map (λ (x : Placed). x.1) held)

-- no id is above this
abbrev pub AreGiven : ℕ → List Placed → Type 0
AreGiven last [] = Unit {0}
AreGiven last (x ∷ xs) = (x.1.id ≤ last) × AreGiven last xs

-- each id is below this
abbrev pub AreBelow : ℕ → List Placed → Type 0
AreBelow id [] = Unit {0}
AreBelow id (x ∷ xs) = (x.1.id < id) × AreBelow id xs

-- ids fall from the newest to the oldest
abbrev pub IdsFall : List Placed → Type 0
IdsFall [] = Unit {0}
IdsFall (x ∷ xs) = AreBelow x.1.id xs × IdsFall xs

-- what a table keeps of its entries
pub record IsTable (held : List Placed) (last count : ℕ) : Type 0 where
  pub ids : IdsFall held
  pub below_last : AreGiven last held
  pub few : length held ≤ 65534
  pub counted : count ≡ length held
