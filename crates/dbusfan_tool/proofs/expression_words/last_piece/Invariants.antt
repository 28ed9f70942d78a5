use denote.Text.{Utf8}
use denote.Shadow.{shadow}
use Rattle.dbusfan_tool.proofs.expression_words.last_piece.Given as goal

abbrev pub invariant-loop-piece : goal.invariant-loop-piece
invariant-loop-piece l = shadow (Utf8 l.last)
