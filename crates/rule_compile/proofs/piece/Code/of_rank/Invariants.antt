use Rattle.std.proofs.Common.{◌≡◌, drop, filter}
use Rattle.rule_compile.specs.RuleCode.{part_code, of_rank}
use Rattle.rule_compile.specs.Tested.{is_tested}
use Rattle.rule_compile.proofs.piece.Code.of_rank.Given as goal

-- the conditions from the place on are tested
abbrev pub invariant-loop-place : goal.invariant-loop-place
invariant-loop-place l =
    l.self ≡ of_rank (part_code l.part l.slot) l.rank (filter (is_tested l.tested) (drop l.place l.conditions)) l.fn.self
