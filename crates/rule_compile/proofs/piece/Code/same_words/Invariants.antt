use Rattle.std.proofs.Common.{◌≡◌}
use Rattle.rule_compile.specs.Code.{same_words}
use Rattle.rule_compile.proofs.piece.Code.same_words.Given as goal

-- the words from this one on are compared
abbrev pub invariant-loop-word : goal.invariant-loop-word
invariant-loop-word l = same_words l.at l.value l.word l.self ≡ same_words l.at l.value l.count l.fn.self
