use Rattle.std.proofs.Common.{◌≡◌, drop, map}
use Rattle.filter.specs.FilterTree.{list_of}
use Rattle.filter.specs.Filters.{tree_of}
use Rattle.filter_compile.specs.Names.{with_all_names}
use Rattle.filter_compile.proofs.names.+names.Given as goal

-- what is left completes what was added
abbrev pub invariant-add_all_names-loop-filter : goal.invariant-add_all_names-loop-filter
invariant-add_all_names-loop-filter l =
    with_all_names l.names (list_of (map tree_of (drop l.filter-index l.filters))) ≡ with_all_names l.fn.names (list_of (map tree_of l.filters))
