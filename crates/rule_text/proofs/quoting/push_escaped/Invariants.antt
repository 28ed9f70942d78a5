use Rattle.std.proofs.Common.{◌≡◌, ◌++◌, string_bytes, length}
use denote.Text.{Utf8}
use denote.Shadow.{shadow}
use Rattle.rule_text.specs.Quoting.{escaped_text}
use Rattle.rule_text.proofs.quoting.push_escaped.Given as goal

-- what is left completes what was written
abbrev pub invariant-pieces : goal.invariant-pieces
invariant-pieces l = (string_bytes l.text ++ escaped_text l.rest ≡ string_bytes l.fn.text ++ escaped_text l.value) × shadow (Utf8 l.rest)

abbrev pub decreases-pieces : goal.decreases-pieces
decreases-pieces l = length l.rest
