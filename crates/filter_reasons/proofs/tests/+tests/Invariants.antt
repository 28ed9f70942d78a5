use Rattle.std.proofs.Common.{◌≡◌, ◌++◌, drop, map}
use Rattle.filter.specs.FilterTree.{list_of}
use Rattle.filter.specs.Filters.{tree_of}
use Rattle.filter_reasons.specs.Lent.{trees}
use Rattle.filter_reasons.specs.TestsOf.{tests_in}
use Rattle.filter_reasons.proofs.tests.+tests.Given as goal

-- what is left completes what was added
abbrev pub invariant-add_all_tests-loop-filter : goal.invariant-add_all_tests-loop-filter
invariant-add_all_tests-loop-filter l =
    trees l.tests.items ++ tests_in (list_of (map tree_of (drop l.filter-index l.filters))) ≡ trees l.fn.tests.items ++ tests_in (list_of (map tree_of l.filters))
