-- Inner: entries at their places.
use Rattle.std.specs.Prelude.{◌≡◌, ℕ, ◌+◌, not, List, [], ◌∷◌, map, filter, find, Option, Some, None, option_map, ◌==◌, nat_lt, if◌then◌else◌}
use Rattle.slab.specs.Slab.{Slab}
use Rattle.entry_table.specs.declared.entry.Entry.{Entry}

-- an entry and its place
abbrev pub Placed : Type 0
Placed = ℕ × Entry

-- how many places there are
abbrev pub room : ℕ
room = 65534

-- one more entry, after those of higher ids
abbrev pub by_id : Placed → List Placed → List Placed
by_id x [] = x ∷ []
by_id x (y ∷ ys) = if nat_lt x.1.id y.1.id then y ∷ by_id x ys else x ∷ y ∷ ys

-- the entry of a slot, if it has one, among others
abbrev pub with_slot : ℕ → Option Entry → List Placed → List Placed
with_slot place None held = held
with_slot place (Some e) held = by_id (place, e) held

-- the entries of slots, of which the first is that of this place, by falling id
abbrev pub placed_from : ℕ → List (Option Entry) → List Placed
placed_from place [] = []
placed_from place (slot ∷ slots) = with_slot place slot (placed_from (place + 1) slots)

-- the entries of a slab, the entry that was put last first: its id is the highest
abbrev pub placed_in : Slab Entry → List Placed
placed_in slab = placed_from 0 slab.slots

-- the places of entries
abbrev pub places_of : List Placed → List ℕ
places_of held = map (λ (x : Placed). x.0) held

-- the entry at a place
abbrev pub entry_at : ℕ → List Placed → Option Entry
entry_at place held = option_map (λ (x : Placed). x.1) (find (λ (x : Placed). place == x.0) held)

-- what stands at other places
abbrev pub but_at : ℕ → List Placed → List Placed
but_at place held = filter (λ (x : Placed). not (place == x.0)) held

-- there is room for each entry, and no place beyond it
pub record IsEntrySlab (slab : Slab Entry) : Type 0 where
  pub capacity : slab.capacity ≡ room
