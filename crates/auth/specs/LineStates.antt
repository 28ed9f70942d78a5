-- Inner: how far a line that comes byte by byte has come.
use Rattle.std.specs.Prelude.{◌≡◌, ℕ, ◌-◌, ◌<◌, ◌≤◌, ◌==◌, Bool, List, [], ◌∷◌, length, take, slice_index}
use Rattle.auth.specs.declared.line.LineState.{LineState}
use Rattle.auth.specs.declared.line.LineState.TheVariants.{Open, Ended, Full}
use Rattle.auth.specs.Lines.{cr, max_line_len, Pieces, pieces_of}

-- no line ends in the bytes
abbrev pub whole_piece : List ℕ → Pieces
whole_piece bytes = record { first = bytes; later = [] }

abbrev pub ends_in_cr : List ℕ → Bool
ends_in_cr line = slice_index line (length line - 1) == cr

-- one line, and nothing after its line end
abbrev pub ended_piece : List ℕ → Pieces
ended_piece line = record { first = take (length line - 2) line; later = [] ∷ [] }

-- what a line is: `taken` of the `all` bytes that came were added to it
abbrev pub LineIs : LineState → List ℕ → ℕ → ℕ → Type 0
LineIs Open line taken all = (taken ≡ all) × (pieces_of line ≡ whole_piece line) × (length line < max_line_len)
LineIs Ended line taken all = (pieces_of line ≡ ended_piece line) × (2 ≤ length line) × (length line ≤ max_line_len)
LineIs Full line taken all = (pieces_of line ≡ whole_piece line) × (length line ≡ max_line_len)
