use Rattle.std.proofs.Common.{◌<◌, ◌-◌, length, arith}
use Rattle.filter_compile.proofs.TreeLists.{smaller_one, light_one}
use Rattle.filter_compile.proofs.tree.+filter.Goals as goal

pub put_all-put_filter-requires : goal.put_all-put_filter-requires
put_all-put_filter-requires t c =
    let fs = c.args.filters.now in
    let i = c.loop-place.place - 1 in
    let f = c.index-filters-place.result in
    let inside : i < length fs = omega arith in
    let smaller = smaller_one fs i f inside c.index-filters-place.is in
    (omega (arith, smaller, c.decreases), (c.requires.names, light_one fs i f inside c.index-filters-place.is c.requires.weight))

pub put_any-put_filter-requires : goal.put_any-put_filter-requires
put_any-put_filter-requires t c =
    let fs = c.args.filters.now in
    let i = c.loop-place.place - 1 in
    let f = c.index-filters-place.result in
    let inside : i < length fs = omega arith in
    let smaller = smaller_one fs i f inside c.index-filters-place.is in
    (omega (arith, smaller, c.decreases), (c.requires.names, light_one fs i f inside c.index-filters-place.is c.requires.weight))
