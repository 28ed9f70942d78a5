use Rattle.std.proofs.Common.{◌≡◌, filter}
use Rattle.rule_compile.specs.declared.condition.Part.TheVariants.{Words}
use Rattle.rule_compile.specs.RuleCode.{part_code, ranks, rising}
use Rattle.rule_compile.specs.Tested.{is_tested}
use Rattle.rule_compile.proofs.piece.Code.all_words.Given as goal

-- the conditions of the ranks from this one on are tested
abbrev pub invariant-loop-rank : goal.invariant-loop-rank
invariant-loop-rank l =
    rising (part_code Words l.slot) l.rank (filter (is_tested l.tested) l.conditions) l.self ≡ rising (part_code Words l.slot) ranks (filter (is_tested l.tested) l.conditions) l.fn.self
