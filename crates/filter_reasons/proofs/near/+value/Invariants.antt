use Rattle.std.proofs.Common.{◌≡◌, drop, length, map}
use Rattle.std.specs.Prelude.{◌&&◌}
use Rattle.filter.specs.FilterTree.{list_of}
use Rattle.filter.specs.Filters.{tree_of}
use Rattle.filter_reasons.specs.Answered.{each_is}
use Rattle.filter_reasons.specs.TestsOf.{tests_in}
use Rattle.filter_reasons.proofs.near.+value.Given as goal

-- what is left completes what was found
abbrev pub invariant-each_is-loop-filter : goal.invariant-each_is-loop-filter
invariant-each_is-loop-filter l =
    ((l.each && each_is l.wanted l.place l.rest (list_of (map tree_of (drop l.filter-index l.filters)))) ≡ each_is l.wanted l.place l.fn.answers (list_of (map tree_of l.filters)))
    × (drop (length (tests_in (list_of (map tree_of (drop l.filter-index l.filters))))) l.rest ≡ drop (length (tests_in (list_of (map tree_of l.filters)))) l.fn.answers)
