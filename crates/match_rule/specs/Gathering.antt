-- Inner: what the parts in front said, their conditions, and what one of them said of eavesdropping.
use Rattle.std.specs.Prelude.{ℕ, Bool, false, List, [], ◌∷◌, ◌++◌, map, Option, Some, None, unwrap_or, Result, Ok}
use Rattle.match_key.specs.declared.error.RuleError.{RuleError}
use Rattle.match_rule.specs.declared.condition.Condition.{Condition}
use Rattle.match_rule.specs.declared.term.Term.{Term}
use Rattle.match_rule.specs.declared.term.Term.TheVariants.{Asks, Eavesdrop}
use Rattle.match_rule.specs.declared.parts.Parts.{Parts}
use Rattle.match_rule.specs.RuleTree.{RuleTree}
use Rattle.match_rule.specs.Grammar.{rule_with}
use Rattle.match_rule.specs.Reading.{◌>>=◌, terms_at}

-- what they say, in one order or another
abbrev pub terms_of : List Condition → Option Bool → List Term
terms_of conditions None = map Asks conditions
terms_of conditions (Some flag) = Eavesdrop flag ∷ map Asks conditions

abbrev pub conditions_with : List Condition → Term → List Condition
conditions_with conditions (Asks condition) = conditions ++ condition ∷ []
conditions_with conditions (Eavesdrop flag) = conditions

abbrev pub eavesdrop_with : Option Bool → Term → Option Bool
eavesdrop_with eavesdrop (Asks condition) = eavesdrop
eavesdrop_with eavesdrop (Eavesdrop flag) = Some flag

-- the rule of them
abbrev pub rule_of : Parts → RuleTree
rule_of parts = record { conditions = parts.conditions.items; eavesdrops = unwrap_or parts.eavesdrop false }

-- the rule of a text that isn't too long
abbrev pub tree_at : List ℕ → Result RuleTree RuleError
tree_at text = terms_at text >>= λ terms. Ok (rule_with terms)
