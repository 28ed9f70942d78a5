use Rattle.std.proofs.Common.{◌≡◌, ◌<◌, ◌++◌, ℕ, List, length, take}
use Rattle.auth.specs.Lines.{max_line_len, pieces_of}
use Rattle.auth.specs.LineStates.{whole_piece}
use Rattle.auth.proofs.line.add.Given as goal

pub record Coming (line bytes start : List ℕ) (i : ℕ) : Type 0 where
  pub line_is : line ≡ start ++ take i bytes
  pub open_line : pieces_of line ≡ whole_piece line
  pub room : length line < max_line_len

abbrev pub invariant-loop-i : goal.invariant-loop-i
invariant-loop-i l = Coming l.line.items l.bytes l.initial.line.items l.i
