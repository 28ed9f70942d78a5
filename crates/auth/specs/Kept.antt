-- Inner: what a server keeps of a talk.
use Rattle.std.specs.Prelude.{◌≡◌, ℕ, ◌<◌, ◌≤◌, List, length}
use Rattle.auth.specs.Stages.{max_rejections}
use Rattle.auth.specs.Lines.{max_line_len, pieces_of}
use Rattle.auth.specs.LineStates.{whole_piece}

pub record IsKept (rejections : ℕ) (line : List ℕ) : Type 0 where
  pub open_line : pieces_of line ≡ whole_piece line
  pub room : length line < max_line_len
  pub sent : rejections ≤ max_rejections
