-- Inner: the lists of places by which entries are looked up.
use Rattle.std.specs.Prelude.{◌≡◌, ℕ, ◌+◌, ◌-◌, ◌%◌, ◌<◌, true, List, ◌∷◌, filter, length, replicate, ◌==◌, slice_index, slice_set}
use Rattle.entry_table.specs.PlaceLists.{PlaceLists, places_in, has_place, without, AreOnce, IsFree, empty_lists}
use Rattle.entry_table.specs.declared.entry.Entry.{Entry}
use Rattle.entry_table.specs.declared.text_points.TextPoints.{TextPoints}
use Rattle.entry_table.specs.declared.index.Index.{Index}
use Rattle.entry_table.specs.declared.index.Standing.{Standing}
use Rattle.entry_table.specs.PlacedEntries.{Placed, places_of, room}
use Rattle.entry_table.specs.ShapeCounts.{shape_count}
use Rattle.entry_table.specs.TextKeys.{joined_hash, shape_of, list_of, hash_lists}
use Rattle.entry_table.specs.EntryTexts.{lookup_texts}

-- the places of the entries of a key, the entry that was put last first
abbrev pub places_with_key : (Entry → ℕ) → ℕ → List Placed → List ℕ
places_with_key key k held = places_of (filter (λ (x : Placed). key x.1 == k) held)

-- each list has the places of the entries of its key
pub record IsKeyed (key : Entry → ℕ) (count : ℕ) (all : PlaceLists) (held : List Placed) : Type 0 where
  pub places : all.places ≡ room
  pub long : length all.lists ≡ count
  pub each : (k : ℕ) → k < count → places_in all k ≡ places_with_key key k held

-- how many lists there are for connections
abbrev pub connection_lists : ℕ
connection_lists = 4096

abbrev pub connection_key : Entry → ℕ
connection_key e = e.connection % connection_lists

abbrev pub shape_key : Entry → ℕ
shape_key e = shape_of (lookup_texts e.filter)

abbrev pub texts_key : TextPoints → Entry → ℕ
texts_key points e = list_of (shape_of (lookup_texts e.filter)) (joined_hash points (lookup_texts e.filter))

-- the entries of each shape are counted
pub record AreCounted (counts : List ℕ) (held : List Placed) : Type 0 where
  pub long : length counts ≡ shape_count
  pub each : (shape : ℕ) → shape < shape_count → slice_index counts shape ≡ length (places_with_key shape_key shape held)

-- what an index keeps of the entries: each place has at most one, each list has those of its key, and shapes are
-- counted
pub record IsIndexed (index : Index) (held : List Placed) : Type 0 where
  pub once : AreOnce (places_of held)
  pub connections : IsKeyed connection_key connection_lists index.by_connection held
  pub texts : IsKeyed (texts_key index.points) (hash_lists + 1) index.by_texts held
  pub shapes : AreCounted index.shapes held

-- where an entry stands
abbrev pub standing_of : TextPoints → Entry → Standing
standing_of points e = record { connection = connection_key e; texts = texts_key points e; shape = shape_key e }

abbrev pub put_in : ℕ → ℕ → PlaceLists → PlaceLists
put_in list place all = record all { lists = slice_set all.lists list (place ∷ places_in all list) }

abbrev pub taken_from : ℕ → ℕ → PlaceLists → PlaceLists
taken_from list place all = record all { lists = slice_set all.lists list (without place (places_in all list)) }

abbrev pub empty_index : TextPoints → Index
empty_index points = record { points = points; by_connection = empty_lists connection_lists room; by_texts = empty_lists (hash_lists + 1) room; shapes = replicate shape_count 0 }

-- one more place
abbrev pub with_place : ℕ → Standing → Index → Index
with_place place standing index = record index {
  by_connection = put_in standing.connection place index.by_connection;
  by_texts = put_in standing.texts place index.by_texts;
  shapes = slice_set index.shapes standing.shape (slice_index index.shapes standing.shape + 1);
}

-- one place less
abbrev pub without_place : ℕ → Standing → Index → Index
without_place place standing index = record index {
  by_connection = taken_from standing.connection place index.by_connection;
  by_texts = taken_from standing.texts place index.by_texts;
  shapes = slice_set index.shapes standing.shape (slice_index index.shapes standing.shape - 1);
}

-- the place can be put there
pub record CanStand (index : Index) (place : ℕ) (standing : Standing) : Type 0 where
  pub connection : standing.connection < length index.by_connection.lists
  pub connection_place : place < index.by_connection.places
  pub connection_free : IsFree index.by_connection place
  pub texts : standing.texts < length index.by_texts.lists
  pub texts_place : place < index.by_texts.places
  pub texts_free : IsFree index.by_texts place
  pub shape : standing.shape < length index.shapes
  pub shape_few : slice_index index.shapes standing.shape < 65535

-- the place stands there
pub record Stands (index : Index) (place : ℕ) (standing : Standing) : Type 0 where
  pub connection : standing.connection < length index.by_connection.lists
  pub in_connection : has_place place (places_in index.by_connection standing.connection) ≡ true
  pub texts : standing.texts < length index.by_texts.lists
  pub in_texts : has_place place (places_in index.by_texts standing.texts) ≡ true
  pub shape : standing.shape < length index.shapes
  pub shape_some : 0 < slice_index index.shapes standing.shape
