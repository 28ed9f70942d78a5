use Rattle.std.proofs.Common.{◌≡◌, ◌++◌, drop, string_bytes}
use Rattle.std.specs.List.{flat_map}
use Rattle.rule_text.specs.RuleTexts.{part_at}
use Rattle.rule_text.proofs.writing.push_conditions.Given as goal

-- the conditions that are left complete what was written
abbrev pub invariant-loop-condition : goal.invariant-loop-condition
invariant-loop-condition l = string_bytes l.text ++ flat_map (part_at l.place) (drop l.condition-index l.conditions) ≡ string_bytes l.fn.text ++ flat_map (part_at l.place) l.conditions
