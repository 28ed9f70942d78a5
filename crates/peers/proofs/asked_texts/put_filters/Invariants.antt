use Rattle.std.proofs.Common.{◌≡◌, drop, map}
use Rattle.filter.specs.FilterTree.{list_of}
use Rattle.filter.specs.Filters.{tree_of}
use Rattle.peers.specs.AskedTexts.{with_filters}
use Rattle.peers.proofs.asked_texts.put_filters.Given as goal

-- what is left completes what was put
abbrev pub invariant-loop-filter : goal.invariant-loop-filter
invariant-loop-filter l =
    with_filters (list_of (map tree_of (drop l.filter-index l.filters))) l.asked ≡ with_filters (list_of (map tree_of l.filters)) l.fn.asked
