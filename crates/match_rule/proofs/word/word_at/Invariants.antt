use Rattle.std.proofs.Common.{◌≡◌, drop, take, ◌++◌}
use Rattle.std.specs.Prelude.{option_map}
use Rattle.match_rule.specs.Reading.{word_at}
use Rattle.match_rule.proofs.word.word_at.Given as goal

abbrev pub invariant-loop-i : goal.invariant-loop-i
invariant-loop-i l = option_map (λ found. (take l.i l.bytes ++ found.0, found.1)) (word_at (drop l.i l.bytes)) ≡ word_at l.bytes
