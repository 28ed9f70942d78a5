-- A filter without where its parts lie in memory (own).
use Rattle.filter.specs.FilterTree.{FilterTree, test, all, any, negation, list_of}
use Rattle.filter.specs.declared.filter.Filter.{Filter}
use Rattle.filter.specs.declared.filter.Filter.TheOpen.{Filter-F}
use Rattle.filter.specs.declared.filter.Filter.TheOpen as nodes
use Rattle.filter.specs.declared.filter.Filter.TheFolds.{fold-Filter}

-- one filter, with the trees of those in it
abbrev pub tree_step : Filter-F FilterTree → FilterTree
tree_step (nodes.Test t) = test t
tree_step (nodes.All filters) = all (list_of filters.items)
tree_step (nodes.Any filters) = any (list_of filters.items)
tree_step (nodes.Not filter) = negation filter.value

abbrev pub tree_of : Filter → FilterTree
tree_of = fold-Filter FilterTree tree_step
