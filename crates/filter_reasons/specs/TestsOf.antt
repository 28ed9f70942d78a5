-- The tests of filters (own).
use Rattle.std.specs.Prelude.{List, [], ◌∷◌, ◌++◌}
use Rattle.filter.specs.FilterTree.{FilterTree, FilterTrees, test, all, any, negation, no_filters, one_more}

-- each test as a filter of its own, in the order of the text
abbrev mutual
  pub tests_of : FilterTree → List FilterTree
  tests_of (test t) = test t ∷ []
  tests_of (all fs) = tests_in fs
  tests_of (any fs) = tests_in fs
  tests_of (negation f) = tests_of f

  pub tests_in : FilterTrees → List FilterTree
  tests_in no_filters = []
  tests_in (one_more f fs) = tests_of f ++ tests_in fs
