-- The path namespace that a rule asks for, by which rules are told apart that fix no text (own).
use Rattle.std.specs.Prelude.{ℕ, ◌-◌, List, Option, IsSomeAnd, length, slice_index_or}
use Rattle.match_key.specs.declared.source.Field.TheVariants.{Path}
use Rattle.match_key.specs.declared.source.Source.TheVariants.{Header}
use Rattle.match_key.specs.declared.relation.Relation.TheVariants.{PathNamespace}
use Rattle.match_key.specs.declared.key.Key.TheVariants.{Compares}
use Rattle.match_rule.specs.declared.path_namespace.NamespaceEnd.{NamespaceEnd}
use Rattle.match_rule.specs.RuleTree.{RuleTree}
use Rattle.match_rule.specs.FixedTexts.{value_asked}
use Rattle.match_rule.specs.Holds.{InPathNamespace}

-- the namespace of the first condition that has one
abbrev pub namespace_asked : RuleTree → Option (List ℕ)
namespace_asked rule = value_asked (Compares (Header Path) PathNamespace) rule

-- a namespace's length and its last byte
abbrev pub end_of : List ℕ → NamespaceEnd
end_of namespace = record { len = length namespace; last = slice_index_or namespace (length namespace - 1) 0 }

-- a path is there, and lies in the namespace
abbrev pub HasPathIn : Option (List ℕ) → List ℕ → Type 0
HasPathIn path namespace = IsSomeAnd path (λ text. InPathNamespace text namespace)

-- the rule asks for a namespace that the path isn't in
abbrev pub IsElsewhere : RuleTree → Option (List ℕ) → Type 0
IsElsewhere rule path = IsSomeAnd (namespace_asked rule) (λ namespace. HasPathIn path namespace → ⊥)
