use Rattle.std.proofs.Common.{◌≡◌, drop}
use Rattle.match_rule.specs.RuleTree.{first_owned_name}
use Rattle.match_rule.proofs.sender.first_owned_name.Given as goal

-- none in front has one
abbrev pub invariant-loop-condition : goal.invariant-loop-condition
invariant-loop-condition l = first_owned_name (drop l.condition-index l.conditions) ≡ first_owned_name l.conditions
