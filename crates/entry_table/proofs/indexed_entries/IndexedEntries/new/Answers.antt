use Rattle.std.proofs.Common.{subst, sym, List}
use Rattle.entry_table.specs.declared.index.Index.{Index}
use Rattle.entry_table.specs.PlacedEntries.{Placed}
use Rattle.entry_table.specs.IndexLists.{IsIndexed, empty_index}
use Rattle.entry_table.proofs.Indexing.{IsIndexed-empty}
use Rattle.entry_table.proofs.indexed_entries.IndexedEntries.new.Goals as goal

pub invariant_of-result : goal.invariant_of-result
invariant_of-result c =
    subst (λ (index : Index). IsIndexed index c.in_ok-new.field-0) (sym c.in_ok-new-2.ensures)
    (subst (λ (held : List Placed). IsIndexed (empty_index c.points.result) held) (sym c.in_ok-new.ensures) (IsIndexed-empty c.points.result))
