use Rattle.std.proofs.Common.{◌≡◌, drop, map}
use Rattle.filter.specs.FilterTree.{list_of}
use Rattle.filter.specs.Filters.{tree_of}
use Rattle.filter_compile.specs.FilterCode.{all_code, any_code}
use Rattle.filter_compile.proofs.TreeLists.{tree_size, trees_size}
use Rattle.filter_compile.proofs.tree.+filter.Given as goal

abbrev pub decreases-put_filter : goal.decreases-put_filter
decreases-put_filter l = tree_size (tree_of l.filter.now)

abbrev pub decreases-put_all : goal.decreases-put_all
decreases-put_all l = trees_size (list_of (map tree_of l.filters.now))

abbrev pub decreases-put_any : goal.decreases-put_any
decreases-put_any l = trees_size (list_of (map tree_of l.filters.now))

-- the filters from the place on stand there
abbrev pub invariant-put_all-loop-place : goal.invariant-put_all-loop-place
invariant-put_all-loop-place l =
    (record { code = l.code; entry = l.next.holds } ≡ all_code l.names (list_of (map tree_of (drop l.place l.filters))) l.fn.exits.fails (record { code = l.fn.code; entry = l.fn.exits.holds }))
    × (l.next.fails ≡ l.fn.exits.fails)

abbrev pub invariant-put_any-loop-place : goal.invariant-put_any-loop-place
invariant-put_any-loop-place l =
    (record { code = l.code; entry = l.next.fails } ≡ any_code l.names (list_of (map tree_of (drop l.place l.filters))) l.fn.exits.holds (record { code = l.fn.code; entry = l.fn.exits.fails }))
    × (l.next.holds ≡ l.fn.exits.holds)
