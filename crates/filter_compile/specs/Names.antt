-- The names whose owners a filter asks for, and their slots (own).
use Rattle.std.specs.Prelude.{ℕ, suc, Bool, List, [], ◌∷◌, ◌++◌, Option, Some, None, if◌then◌else◌}
use Rattle.std.specs.List.{list_any}
use Rattle.std.specs.Str.{bytes_eq}
use Rattle.filter.specs.FilterTree.{FilterTree, FilterTrees, test, all, any, negation, no_filters, one_more}
use Rattle.filter.specs.Weights.{asks_owner}
use Rattle.filter.specs.declared.test.Test.{Test}
use Rattle.filter.specs.declared.test.Test.TheVariants.{Text}

-- the owned name that a test asks for
abbrev pub name_in : Test → Option (List ℕ)
name_in (Text source relation value) = if asks_owner source relation value then Some value else None
name_in _ = None

abbrev pub has_name : List (List ℕ) → List ℕ → Bool
has_name names name = list_any (λ other. bytes_eq other name) names

-- names, and one more that isn't among them
abbrev pub with_one_name : List (List ℕ) → List ℕ → List (List ℕ)
with_one_name names name = if has_name names name then names else names ++ name ∷ []

abbrev pub with_name : List (List ℕ) → Option (List ℕ) → List (List ℕ)
with_name names None = names
with_name names (Some name) = with_one_name names name

-- names, and those that a filter asks for besides
abbrev mutual
  pub with_names : List (List ℕ) → FilterTree → List (List ℕ)
  with_names names (test t) = with_name names (name_in t)
  with_names names (all fs) = with_all_names names fs
  with_names names (any fs) = with_all_names names fs
  with_names names (negation f) = with_names names f

  pub with_all_names : List (List ℕ) → FilterTrees → List (List ℕ)
  with_all_names names no_filters = names
  with_all_names names (one_more f fs) = with_all_names (with_names names f) fs

-- The names that a filter asks for, each once, in the order of its text.
abbrev pub names_of : FilterTree → List (List ℕ)
names_of f = with_names [] f

-- Slots are counted from 0 in this order.
abbrev pub slot_in : List (List ℕ) → List ℕ → ℕ
slot_in [] name = 0
slot_in (other ∷ names) name = if bytes_eq other name then 0 else suc (slot_in names name)
