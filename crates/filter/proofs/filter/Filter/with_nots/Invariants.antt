use Rattle.std.proofs.Common.{◌≡◌}
use Rattle.filter.specs.FilterTree.{with_nots}
use Rattle.filter.specs.Filters.{tree_of}
use Rattle.filter.proofs.filter.Filter.with_nots.Given as goal

abbrev pub invariant-loop : goal.invariant-loop
invariant-loop l = tree_of l.filter ≡ with_nots l.counter (tree_of l.fn.self)
