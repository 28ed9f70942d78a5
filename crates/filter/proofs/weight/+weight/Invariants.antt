use Rattle.std.proofs.Common.{◌≡◌, ◌+◌, ◌≤◌, drop, map}
use Rattle.std.specs.Prelude.{min}
use Rattle.filter.specs.FilterTree.{list_of}
use Rattle.filter.specs.Filters.{tree_of}
use Rattle.filter.specs.Weights.{sum_weight}
use Rattle.filter.proofs.weight.+weight.Given as goal

-- the weight so far and that of the rest is the weight of all
abbrev pub invariant-sum_weight-loop-filter : goal.invariant-sum_weight-loop-filter
invariant-sum_weight-loop-filter l =
    (min (l.sum + sum_weight (list_of (map tree_of (drop l.filter-index l.filters)))) 18446744073709551615 ≡ min (sum_weight (list_of (map tree_of l.filters))) 18446744073709551615)
    × (l.sum ≤ 18446744073709551615)
