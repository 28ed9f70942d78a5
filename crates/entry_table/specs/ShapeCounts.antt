-- Inner: how many entries have each shape, and which shapes are in use.
use Rattle.std.specs.Prelude.{◌≡◌, ℕ, ◌&&◌, Bool, List, length, nat_lt, slice_index}
use Rattle.entry_table.specs.PlaceLists.{PlaceLists, places_in, has_place}

-- how many shapes there are
abbrev pub shape_count : ℕ
shape_count = 128

-- a shape is in use where it has entries; entries of shape 0 are looked at anyhow
abbrev pub is_in_use : ℕ → List ℕ → Bool
is_in_use shape counts = nat_lt 0 shape && nat_lt 0 (slice_index counts shape)

-- the list has the shapes in use
pub record AreShapes (counts : List ℕ) (used : PlaceLists) : Type 0 where
  pub long : length counts ≡ shape_count
  pub places : used.places ≡ shape_count
  pub one : length used.lists ≡ 1
  pub same : (shape : ℕ) → has_place shape (places_in used 0) ≡ is_in_use shape counts
