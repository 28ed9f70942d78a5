-- A message of which a rule holds has a path in the namespace that the rule asks for.
use Rattle.std.proofs.Common.{ℕ, Bool, List}
use Rattle.std.specs.Prelude.{Option, Some, None, IfSome, IsSomeAnd}
use Rattle.message_view.specs.Message.{Message, path_of}
use Rattle.match_key.specs.declared.source.Field.TheVariants.{Path}
use Rattle.match_key.specs.declared.source.Source.TheVariants.{Header}
use Rattle.match_key.specs.declared.relation.Relation.TheVariants.{PathNamespace}
use Rattle.match_rule.specs.RuleTree.{RuleTree}
use Rattle.match_rule.specs.Holds.{Holds}
use Rattle.match_rule.specs.PathNamespaces.{namespace_asked, HasPathIn, IsElsewhere}
use Rattle.match_rule.proofs.FixedFound.{asked_found}

neither : (asked : Option (List ℕ)) (path : Option (List ℕ)) → IfSome asked (λ value. HasPathIn path value) → IsSomeAnd asked (λ value. HasPathIn path value → ⊥) → ⊥
neither None path found elsewhere = elsewhere
neither (Some value) path found elsewhere = elsewhere found

pub not_elsewhere : (rule : RuleTree) (m : Message) (owned : List ℕ → Bool) → Holds rule m owned → IsElsewhere rule (path_of m) → ⊥
not_elsewhere rule m owned h elsewhere = neither (namespace_asked rule) (path_of m) (asked_found (Header Path) PathNamespace rule m owned h) elsewhere
