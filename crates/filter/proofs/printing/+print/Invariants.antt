use Rattle.std.proofs.Common.{◌≡◌, ◌++◌, drop, false, map, string_bytes}
use Rattle.filter.specs.FilterTree.{list_of}
use Rattle.filter.specs.Filters.{tree_of}
use Rattle.filter.specs.Printing.{all_text, any_text}
use Rattle.filter.proofs.printing.+print.Given as goal

-- what is left completes what was written
abbrev pub invariant-push_all-loop-filter : goal.invariant-push_all-loop-filter
invariant-push_all-loop-filter l =
    string_bytes l.text ++ all_text l.later (list_of (map tree_of (drop l.filter-index l.filters))) ≡ string_bytes l.fn.text ++ all_text false (list_of (map tree_of l.filters))

abbrev pub invariant-push_any-loop-filter : goal.invariant-push_any-loop-filter
invariant-push_any-loop-filter l =
    string_bytes l.text ++ any_text l.later (list_of (map tree_of (drop l.filter-index l.filters))) ≡ string_bytes l.fn.text ++ any_text false (list_of (map tree_of l.filters))
