use Rattle.std.proofs.Common.{◌≡◌, filter}
use Rattle.rule_compile.specs.declared.condition.Part.TheVariants.{Bytes}
use Rattle.rule_compile.specs.RuleCode.{part_code, falling}
use Rattle.rule_compile.specs.Tested.{is_tested}
use Rattle.rule_compile.proofs.piece.Code.all_bytes.Given as goal

-- the conditions of the ranks below this one are tested
abbrev pub invariant-loop-rank : goal.invariant-loop-rank
invariant-loop-rank l =
    l.self ≡ falling (part_code Bytes l.slot) l.rank (filter (is_tested l.tested) l.conditions) l.fn.self
