-- The lines of a talk, which CR LF ends (D-Bus Specification, "Authentication Protocol").
use Rattle.std.specs.Prelude.{ℕ, ◌+◌, ◌-◌, ◌==◌, ◌&&◌, List, [], ◌∷◌, ◌++◌, drop, length, slice_index, if◌then◌else◌}

abbrev pub cr : ℕ
cr = 13

abbrev pub lf : ℕ
lf = 10

-- how many bytes a line may have, its CR LF among them
abbrev pub max_line_len : ℕ
max_line_len = 1024

-- What stands between the line ends: the first piece, and a further one after each line end. All but the last are
-- lines.
pub record Pieces : Type 0 where
  pub first : List ℕ
  pub later : List (List ℕ)

-- a CR before an LF ends a line; every other byte is one of its piece
abbrev pub with_byte : ℕ → Pieces → Pieces
with_byte byte pieces =
    if slice_index pieces.first 0 == lf && byte == cr
    then record { first = []; later = drop 1 pieces.first ∷ pieces.later }
    else record { first = byte ∷ pieces.first; later = pieces.later }

-- the pieces of bytes
abbrev pub pieces_of : List ℕ → Pieces
pieces_of [] = record { first = []; later = [] }
pieces_of (byte ∷ bytes) = with_byte byte (pieces_of bytes)

-- how many of the bytes after those that are there go through the first line end, all where there is none
abbrev pub len_through : ℕ → ℕ → Pieces → ℕ
len_through there all pieces = through pieces.later
  where
    through : List (List ℕ) → ℕ
    through [] = all
    through (next ∷ later) = length pieces.first + 2 - there

abbrev pub through_line : List ℕ → List ℕ → ℕ
through_line line bytes = len_through (length line) (length bytes) (pieces_of (line ++ bytes))
