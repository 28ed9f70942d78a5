-- Rules, apart from their texts (D-Bus Specification, "Match Rules"; the weight is our own).
use Rattle.std.specs.Prelude.{◌≡◌, ℕ, ◌+◌, ◌*◌, Bool, not, List, [], ◌∷◌, Option, Some, None, length, Contains, sum_by, ◌==◌, ◌&&◌, if◌then◌else◌}
use Rattle.std.specs.List.{list_all, list_any}
use Rattle.std.specs.Bool.{beq}
use Rattle.std.specs.Str.{bytes_eq}
use Rattle.match_rule.specs.declared.condition.Condition.{Condition}
use Rattle.match_rule.specs.declared.condition.Condition.TheVariants.{Sender, Compares}
use Rattle.match_key.specs.declared.relation.Relation.{Relation}
use Rattle.match_key.specs.declared.relation.Relation.TheVariants.{NestedPath}
use Rattle.match_rule.specs.Bytes.{begins_with}
use Rattle.match_rule.specs.Condition.{value_of, condition_eq}
use Rattle.signature.specs.Name.{bus_name}

-- its conditions, in the order of the text, and whether it eavesdrops
pub record RuleTree : Type 0 where
  pub conditions : List Condition
  pub eavesdrops : Bool

-- how many `/` a text has
abbrev pub slashes : List ℕ → ℕ
slashes text = sum_by (λ byte. if byte == 47 then 1 else 0) text

-- what a relation adds to the weight of a value: for an `argNpath` 16 for each `/` of it
abbrev pub relation_weight : Relation → List ℕ → ℕ
relation_weight NestedPath value = 16 * slashes value
relation_weight _ value = 0

-- what a condition weighs: 24 and the bytes of its value, and what its relation adds
abbrev pub condition_weight : Condition → ℕ
condition_weight (Compares source relation value) = 24 + length value + relation_weight relation value
condition_weight c = 24 + length (value_of c)

-- what a rule weighs: 8, and the weight of each condition
abbrev pub weight_of : RuleTree → ℕ
weight_of rule = 8 + sum_by condition_weight rule.conditions

-- a name that a message's SENDER never is, since another connection may own it: neither a unique name nor
-- that of the bus
abbrev pub is_owned_name : List ℕ → Bool
is_owned_name name = not (begins_with 58 name) && not (bytes_eq name bus_name)

abbrev pub owned_name_in : Condition → Option (List ℕ)
owned_name_in (Sender name) = if is_owned_name name then Some name else None
owned_name_in _ = None

abbrev pub or_else : Option (List ℕ) → Option (List ℕ) → Option (List ℕ)
or_else (Some name) other = Some name
or_else None other = other

abbrev pub first_owned_name : List Condition → Option (List ℕ)
first_owned_name [] = None
first_owned_name (c ∷ cs) = or_else (owned_name_in c) (first_owned_name cs)

-- the name whose owner decides whether the rule holds
abbrev pub sender_name_of : RuleTree → Option (List ℕ)
sender_name_of rule = first_owned_name rule.conditions

-- each condition of the first is among those of the second
abbrev pub are_among : List Condition → List Condition → Bool
are_among conditions others = list_all (λ c. list_any (λ d. condition_eq d c) others) conditions

-- equal as sets of conditions, with the same eavesdropping
abbrev pub rule_eq : RuleTree → RuleTree → Bool
rule_eq a b = are_among a.conditions b.conditions && are_among b.conditions a.conditions && beq a.eavesdrops b.eavesdrops

-- the same set of conditions, and the same eavesdropping
pub record AreSame (a b : RuleTree) : Type 0 where
  pub within : (c : Condition) → Contains a.conditions c → Contains b.conditions c
  pub without : (c : Condition) → Contains b.conditions c → Contains a.conditions c
  pub eavesdrop : a.eavesdrops ≡ b.eavesdrops
