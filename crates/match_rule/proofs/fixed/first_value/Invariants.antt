use Rattle.std.proofs.Common.{◌≡◌, drop}
use Rattle.match_rule.specs.FixedTexts.{value_in, first_text}
use Rattle.match_rule.proofs.fixed.first_value.Given as goal

-- none in front has one
abbrev pub invariant-loop-condition : goal.invariant-loop-condition
invariant-loop-condition l = first_text (value_in l.key) (drop l.condition-index l.conditions) ≡ first_text (value_in l.key) l.conditions
