-- The slots of names (own). A slot belongs to a name while a claim on the name is there, or an entry whose rule asks
-- for it as the sender.
use Rattle.std.specs.Prelude.{ℕ, Bool, false, List, Option, Some, None, map, position, is_none, slice_set, ◌||◌, if◌then◌else◌}
use Rattle.std.specs.List.{list_any}
use Rattle.std.specs.Str.{bytes_eq}
use Rattle.match_rule.specs.RuleTree.{sender_name_of}
use Rattle.owners.specs.Queues.{Claim, is_on}
use Rattle.owners.specs.Registry.{or_else}
use Rattle.entry_table.specs.declared.entry.Entry.{Entry}
use Rattle.entry_table.specs.declared.entry.Filter.{Filter}
use Rattle.entry_table.specs.declared.entry.Filter.TheVariants.{Rule, Attached}

abbrev pub is_name : List ℕ → Option (List ℕ) → Bool
is_name name None = false
is_name name (Some other) = bytes_eq other name

-- the slot that a name has
abbrev pub slot_of : List ℕ → List (Option (List ℕ)) → Option ℕ
slot_of name slots = position (is_name name) slots

-- the slot that a name has, or gets when it needs one: the lowest free one
abbrev pub slot_next : List ℕ → List (Option (List ℕ)) → Option ℕ
slot_next name slots = or_else (slot_of name slots) (position is_none slots)

abbrev pub with_slot_at : Option ℕ → List ℕ → List (Option (List ℕ)) → List (Option (List ℕ))
with_slot_at None name slots = slots
with_slot_at (Some slot) name slots = slice_set slots slot (Some name)

-- the slots after a name needed one
abbrev pub with_slot : List ℕ → List (Option (List ℕ)) → List (Option (List ℕ))
with_slot name slots = with_slot_at (slot_next name slots) name slots

-- the owned name that an entry's rule asks for as the sender
abbrev pub sender_asked : Filter → Option (List ℕ)
sender_asked (Rule compiled) = sender_name_of compiled.rule
sender_asked (Attached program) = None

abbrev pub asks_for : List ℕ → Entry → Bool
asks_for name e = is_name name (sender_asked e.filter)

-- a claim on the name is there, or an entry's rule with that sender
abbrev pub is_used : List Claim → List Entry → List ℕ → Bool
is_used claims entries name = list_any (is_on name) claims || list_any (asks_for name) entries

abbrev pub used_slot : List Claim → List Entry → Option (List ℕ) → Option (List ℕ)
used_slot claims entries None = None
used_slot claims entries (Some name) = if is_used claims entries name then Some name else None

-- the slots without those of names that are no longer used
abbrev pub used_slots : List Claim → List Entry → List (Option (List ℕ)) → List (Option (List ℕ))
used_slots claims entries slots = map (used_slot claims entries) slots
