use Rattle.std.proofs.Common.{◌≡◌, ◌++◌, ◌-◌, ◌≤◌, string_bytes}
use Rattle.rule_text.specs.RuleTexts.{parts_from}
use Rattle.rule_text.proofs.writing.parts.Given as goal

-- what stands at the places that are left completes what was written
abbrev pub invariant-loop-place : goal.invariant-loop-place
invariant-loop-place l = (l.place ≤ 71) × (string_bytes l.text ++ parts_from l.rule l.place (71 - l.place) ≡ parts_from l.rule 0 71)
