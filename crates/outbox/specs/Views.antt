-- The rule of an outbox, over what stands in it and what each seat knows (own).
use Rattle.std.specs.Prelude.{ℕ, ◌≡◌, ◌≢◌, ◌<◌, Bool, true, false, Option, Some, None, List, [], ◌∷◌, ◌++◌, map, slice_index_or}
use Rattle.outbox.specs.Items.{Item}
use Rattle.outbox.specs.declared.rule.SeatView.{SeatView}
use Rattle.outbox.specs.Counts.{Put, Take, of_seat, Rises, last_of, counts_of, counts_from, AreOf}
use Rattle.outbox.specs.Places.{places_of, Climbs}

-- a new seat's view: it has put and taken nothing
abbrev pub blank : SeatView
blank = record { put = []; taken = []; turn = None; minted = false }

-- the view of the seat of which the turn was made
abbrev pub minter : SeatView
minter = record { put = []; taken = []; turn = None; minted = true }

abbrev pub with_turn : SeatView → Option ℕ → SeatView
with_turn v turn = record v { turn = turn }

-- the view of the turn
abbrev pub turn_at : ℕ → SeatView
turn_at last = with_turn blank (Some last)

abbrev pub last_in : Option ℕ → ℕ
last_in None = 0
last_in (Some last) = last

abbrev pub turn_after : Option ℕ → Option ℕ → Option ℕ
turn_after turn None = turn
turn_after turn (Some place) = Some place

-- the view after a put
abbrev pub after_put : SeatView → Item → SeatView
after_put v x = record v { put = v.put ++ x ∷ [] }

-- the view after a put of what bears a place, by the seat that has the turn
abbrev pub after_placed : SeatView → Item → SeatView
after_placed v x = record v { put = v.put ++ x ∷ []; turn = turn_after v.turn x.place }

-- the view after an item was taken, which the seat with this number had put
abbrev pub after_taken : SeatView → Put → SeatView
after_taken v x = record v { taken = v.taken ++ x ∷ [] }

abbrev pub item_of : Put → Item
item_of x = x.1

abbrev pub put_of : Take → Put
put_of x = x.1

-- what the seat with this number knows
abbrev pub seat_known : List SeatView → ℕ → SeatView
seat_known views seat = slice_index_or views seat blank

-- broadcasts of one origin, by rising counts
abbrev pub IsRun : List Item → Type 0
IsRun items = Rises 0 (counts_of items) × ((origin : ℕ) × AreOf origin items)

-- of what was taken and then what stands, just the items that the seat has put are its own, in that order; just those
-- that it has taken went to it; and it puts broadcasts of one origin, by rising counts
pub record Fits (seat : ℕ) (v : SeatView) (gone : List Take) (line : List Put) : Type 0 where
  pub put : of_seat seat (map put_of gone ++ line) ≡ v.put
  pub taken : of_seat seat gone ≡ v.taken
  pub run : IsRun v.put

-- a seat that has the turn is the one that has it, and knows the last place
abbrev pub KnowsLast : ℕ → List Item → ℕ → SeatView → Type 0
KnowsLast holder all seat v = (last : ℕ) → v.turn ≡ Some last → (seat ≡ holder) × (last ≡ last_of 0 (places_of all))

-- Of all that was put the places rise, and one seat at most has the turn. Before the turn was made of the first seat, nobody
-- has it, and no place was put.
pub record Placed (all : List Item) (views : List SeatView) : Type 0 where
  pub holder : ℕ
  pub climbs : Climbs 0 (places_of all)
  pub knows : (seat : ℕ) → KnowsLast holder all seat (seat_known views seat)
  pub unmade : (seat_known views 0).minted ≡ false → ((seat : ℕ) → (seat_known views seat).turn ≡ None) × (places_of all ≡ [])

-- What was taken and then what stands is a merge of what the seats have put, and what was taken is a merge of what they
-- took: nothing is invented, nothing is there twice, and nothing is lost before it is taken.
pub record Merged (items : List Item) (views : List SeatView) : Type 0 where
  pub gone : List Take
  pub line : List Put
  pub stands : map item_of line ≡ items
  pub fits : (seat : ℕ) → Fits seat (seat_known views seat) gone line
  pub places : Placed (map item_of (map put_of gone ++ line)) views

-- after these puts of a seat, it may put an item with this mark: a broadcast is of the same origin, and its count is
-- above the last
abbrev pub Follows : List Item → Option (ℕ × ℕ) → Type 0
Follows items None = Unit {0}
Follows items (Some m) = AreOf m.0 items × (last_of 0 (counts_of items) < m.1)

-- no seat but this one has put a broadcast of the origin
abbrev pub PutAlone : ℕ → ℕ → List SeatView → Type 0
PutAlone origin seat views = (other : ℕ) → other ≢ seat → counts_from origin (seat_known views other).put ≡ []
