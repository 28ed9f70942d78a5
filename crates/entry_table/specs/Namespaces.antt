-- The namespaces that a rule asks for, which an index looks its entries up by (own).
use Rattle.std.specs.Prelude.{ℕ, List, Option, None, IfSome, IsSomeAnd}
use Rattle.match_key.specs.ArgNumber.{first_arg}
use Rattle.match_key.specs.declared.key.Key.TheVariants.{Compares}
use Rattle.match_key.specs.declared.relation.Relation.TheVariants.{NameNamespace}
use Rattle.match_key.specs.declared.source.Source.TheVariants.{Arg}
use Rattle.match_rule.specs.FixedTexts.{FixedTexts, value_asked}
use Rattle.match_rule.specs.Holds.{InNamespace}
use Rattle.match_rule.specs.PathNamespaces.{namespace_asked, HasPathIn}
use Rattle.match_rule.specs.RuleTree.{RuleTree}

-- a namespace, or none, of the path and of argument 0
pub record Namespaces : Type 0 where
  pub path : Option (List ℕ)
  pub arg0 : Option (List ℕ)

abbrev pub no_namespaces : Namespaces
no_namespaces = record { path = None; arg0 = None }

-- the namespace of names that a rule asks for as argument 0
abbrev pub arg0_namespace_asked : RuleTree → Option (List ℕ)
arg0_namespace_asked rule = value_asked (Compares (Arg first_arg) NameNamespace) rule

abbrev pub namespaces_asked : RuleTree → Namespaces
namespaces_asked rule = record { path = namespace_asked rule; arg0 = arg0_namespace_asked rule }

-- each namespace that is asked for has the text that is found
pub record AreInside (asked : Namespaces) (found : FixedTexts) : Type 0 where
  pub path : IfSome asked.path (λ namespace. HasPathIn found.path namespace)
  pub arg0 : IfSome asked.arg0 (λ namespace. IsSomeAnd found.arg0 (λ text. InNamespace text namespace))
