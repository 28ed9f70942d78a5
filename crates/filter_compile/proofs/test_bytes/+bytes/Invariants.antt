use Rattle.std.proofs.Common.{drop, map}
use Rattle.filter.specs.FilterTree.{list_of}
use Rattle.filter.specs.Filters.{tree_of}
use Rattle.filter_compile.specs.EachTest.{HasBytes, EachIn}
use Rattle.filter_compile.proofs.test_bytes.+bytes.Given as goal

-- with those that are left, all have
abbrev pub invariant-all_have_bytes-loop-filter : goal.invariant-all_have_bytes-loop-filter
invariant-all_have_bytes-loop-filter l =
    EachIn HasBytes (list_of (map tree_of (drop l.filter-index l.filters))) → EachIn HasBytes (list_of (map tree_of l.filters))
