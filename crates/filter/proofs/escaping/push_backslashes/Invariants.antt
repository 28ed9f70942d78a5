use Rattle.std.proofs.Common.{◌≡◌, ◌++◌, string_bytes, length}
use denote.Text.{Utf8}
use denote.Shadow.{shadow}
use Rattle.filter.specs.Printing.{escape_all}
use Rattle.filter.proofs.escaping.push_backslashes.Given as goal

-- what is left completes what was written
abbrev pub invariant-pieces : goal.invariant-pieces
invariant-pieces l = (string_bytes l.text ++ escape_all 92 l.rest ≡ string_bytes l.fn.text ++ escape_all 92 l.value) × shadow (Utf8 l.rest)

abbrev pub decreases-pieces : goal.decreases-pieces
decreases-pieces l = length l.rest
