-- Inner: which conditions a program tests, all of a rule or those that are left of it.
use Rattle.std.specs.Prelude.{ℕ, Bool, true, false, not, List, Option, Some, None, filter, ◌==◌, if◌then◌else◌}
use Rattle.std.specs.Str.{bytes_eq}
use Rattle.match_key.specs.declared.source.Field.{Field}
use Rattle.match_key.specs.declared.source.Field.TheVariants.{Interface, Member, Path, Destination}
use Rattle.match_key.specs.declared.source.Source.{Source}
use Rattle.match_key.specs.ArgNumber.{number_of_arg}
use Rattle.match_key.specs.declared.source.Source.TheVariants.{Header, Arg}
use Rattle.match_key.specs.declared.relation.Relation.{Relation}
use Rattle.match_key.specs.declared.relation.Relation.TheVariants as relations
use Rattle.match_rule.specs.declared.condition.Condition.{Condition}
use Rattle.match_rule.specs.declared.condition.Condition.TheVariants.{Compares}
use Rattle.match_rule.specs.Envelope.{is_of_envelope}
use Rattle.match_rule.specs.FixedTexts.{member_asked, interface_asked, path_asked, arg0_asked}
use Rattle.match_rule.specs.RuleTree.{RuleTree}
use Rattle.rule_compile.specs.declared.rest.Tested.{Tested}
use Rattle.rule_compile.specs.declared.rest.Tested.TheVariants.{All, Left}

-- the text is fixed
abbrev pub is_fixed : Option (List ℕ) → List ℕ → Bool
is_fixed None text = false
is_fixed (Some other) text = bytes_eq other text

-- the text that a rule fixes of a header field
abbrev pub fixed_field : RuleTree → Field → Option (List ℕ)
fixed_field rule Interface = interface_asked rule
fixed_field rule Member = member_asked rule
fixed_field rule Path = path_asked rule
fixed_field rule Destination = None

abbrev pub fixed_source : RuleTree → Source → Option (List ℕ)
fixed_source rule (Header field) = fixed_field rule field
fixed_source rule (Arg n) = if number_of_arg n == 0 then arg0_asked rule else None

-- the text that a rule fixes of a source: only equality fixes one
abbrev pub fixed_text : RuleTree → Relation → Source → Option (List ℕ)
fixed_text rule relations.Equal source = fixed_source rule source
fixed_text rule _ source = None

-- the condition is left to test where a message has the texts that the rule fixes and its envelope fits
abbrev pub is_left : RuleTree → Condition → Bool
is_left rule (Compares source relation value) = not (is_fixed (fixed_text rule relation source) value)
is_left rule c = not (is_of_envelope c)

abbrev pub is_tested : Tested → Condition → Bool
is_tested All c = true
is_tested (Left rule) c = is_left rule.now c

-- whether a destination is tested for: of a rule that eavesdrops, and of what is left of one, it isn't
abbrev pub eavesdrops_in : Tested → Bool → Bool
eavesdrops_in All eavesdrops = eavesdrops
eavesdrops_in (Left rule) eavesdrops = true

-- the rule of those conditions that are tested
abbrev pub tested_of : Tested → RuleTree → RuleTree
tested_of tested rule = record {
  conditions = filter (is_tested tested) rule.conditions;
  eavesdrops = eavesdrops_in tested rule.eavesdrops;
}
