use Rattle.std.proofs.Common.{◌≡◌, drop}
use Rattle.match_rule.specs.FixedTexts.{fixed_texts}
use Rattle.match_rule.proofs.rule.Rule.fixed_texts.Given as goal

-- the texts of the conditions from the place on
abbrev pub invariant-loop-place : goal.invariant-loop-place
invariant-loop-place l = l.texts ≡ fixed_texts (record { conditions = drop l.place l.conditions; eavesdrops = l.self.eavesdrops })
