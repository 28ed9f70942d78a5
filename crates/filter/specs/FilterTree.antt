-- Filters, apart from their texts (own).
use Rattle.std.specs.Prelude.{ℕ, zero, suc, List, [], ◌∷◌}
use Rattle.filter.specs.declared.test.Test.{Test}

mutual
  pub data FilterTree : Type 0 where
    test : (test : Test) → FilterTree
    all : (filters : FilterTrees) → FilterTree
    any : (filters : FilterTrees) → FilterTree
    negation : (filter : FilterTree) → FilterTree

  pub data FilterTrees : Type 0 where
    no_filters : FilterTrees
    one_more : FilterTree → FilterTrees → FilterTrees

abbrev pub list_of : List FilterTree → FilterTrees
list_of [] = no_filters
list_of (f ∷ fs) = one_more f (list_of fs)

-- a list of one filter is that filter
abbrev pub all_of : List FilterTree → FilterTree
all_of (f ∷ []) = f
all_of fs = all (list_of fs)

abbrev pub any_of : List FilterTree → FilterTree
any_of (f ∷ []) = f
any_of fs = any (list_of fs)

-- the filter after n times `not`
abbrev pub with_nots : ℕ → FilterTree → FilterTree
with_nots zero f = f
with_nots (suc n) f = negation (with_nots n f)
