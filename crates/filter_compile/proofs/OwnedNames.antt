-- Which names connections own is said alike of filters and of rules.
use Rattle.std.proofs.Common.{◌≡◌, ℕ, List, [], ◌∷◌, refl}
use Rattle.match_rule.specs.RuleTree as rules
use Rattle.filter.specs.Weights as filters

pub same_owned : (name : List ℕ) → rules.is_owned_name name ≡ filters.is_owned_name name
same_owned [] = refl
same_owned (b ∷ bs) = refl
