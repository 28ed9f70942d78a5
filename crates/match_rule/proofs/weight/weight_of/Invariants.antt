use Rattle.std.proofs.Common.{◌≡◌, ◌+◌, take}
use Rattle.std.specs.Prelude.{sum_by}
use Rattle.match_rule.specs.RuleTree.{condition_weight}
use Rattle.match_rule.proofs.weight.weight_of.Given as goal

-- what those in front weigh
abbrev pub invariant-loop-condition : goal.invariant-loop-condition
invariant-loop-condition l = l.weight ≡ 8 + sum_by condition_weight (take l.condition-index l.conditions)
