-- Match rules as texts (D-Bus Specification, "Match Rules").
use Rattle.std.specs.Prelude.{ℕ, zero, suc, ◌+◌, ◌==◌, List, [], ◌++◌, drop, codes, if◌then◌else◌}
use Rattle.std.specs.List.{flat_map}
use Rattle.match_key.specs.ArgNumber.{number_of_arg}
use Rattle.match_key.specs.declared.source.Field.TheVariants.{Interface, Member, Path, Destination}
use Rattle.match_key.specs.declared.source.Source.TheVariants.{Header, Arg}
use Rattle.match_key.specs.declared.key.Key.{Key}
use Rattle.match_key.specs.declared.key.Key.TheVariants.{Kind, Sender, Eavesdrop, Compares}
use Rattle.match_rule.specs.declared.condition.Condition.{Condition}
use Rattle.match_rule.specs.Condition.{key_of, value_of}
use Rattle.match_rule.specs.RuleTree.{RuleTree}
use Rattle.rule_text.specs.Keys.{key_text}
use Rattle.rule_text.specs.Quoting.{quoted_text}

abbrev pub condition_text : Condition → List ℕ
condition_text c = key_text (key_of c) ++ codes "=" ++ quoted_text (value_of c)

-- Where a condition stands in a written rule, as dbus-daemon writes them: arguments come last, by their numbers.
abbrev pub place_of : Key → ℕ
place_of Kind = 0
place_of (Compares (Header Interface) relation) = 1
place_of (Compares (Header Member) relation) = 2
place_of (Compares (Header Path) relation) = 3
place_of Sender = 4
place_of (Compares (Header Destination) relation) = 5
place_of Eavesdrop = 6
place_of (Compares (Arg n) relation) = 7 + number_of_arg n

-- a condition after a comma, at its place
abbrev pub part_at : ℕ → Condition → List ℕ
part_at place c = if place_of (key_of c) == place then codes "," ++ condition_text c else []

-- that it eavesdrops, after a comma, at the place for that
abbrev pub eavesdrop_at : ℕ → RuleTree → List ℕ
eavesdrop_at place rule = if place == 6 then (if rule.eavesdrops then codes ",eavesdrop='true'" else []) else []

abbrev pub parts_at : ℕ → RuleTree → List ℕ
parts_at place rule = flat_map (part_at place) rule.conditions ++ eavesdrop_at place rule

-- what stands at some places, one after the other
abbrev pub parts_from : RuleTree → ℕ → ℕ → List ℕ
parts_from rule place zero = []
parts_from rule place (suc left) = parts_at place rule ++ parts_from rule (suc place) left

-- the conditions by their places, with commas between them
abbrev pub rule_text : RuleTree → List ℕ
rule_text rule = drop 1 (parts_from rule 0 71)
