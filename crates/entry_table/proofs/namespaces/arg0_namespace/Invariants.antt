use Rattle.std.proofs.Common.{◌≡◌, drop}
use Rattle.match_rule.specs.FixedTexts.{value_in, first_text}
use Rattle.entry_table.proofs.namespaces.arg0_namespace.Given as goal

-- none in front asks for one
abbrev pub invariant-loop-condition : goal.invariant-loop-condition
invariant-loop-condition l = first_text (value_in l.asked) (drop l.condition-index l.condition-items) ≡ first_text (value_in l.asked) l.condition-items
