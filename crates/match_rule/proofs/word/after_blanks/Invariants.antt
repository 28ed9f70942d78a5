use Rattle.std.proofs.Common.{◌≡◌, drop}
use Rattle.match_rule.specs.Reading.{after_blanks}
use Rattle.match_rule.proofs.word.after_blanks.Given as goal

abbrev pub invariant-loop-i : goal.invariant-loop-i
invariant-loop-i l = after_blanks (drop l.i l.bytes) ≡ after_blanks l.bytes
