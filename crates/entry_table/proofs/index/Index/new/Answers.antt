use Rattle.std.proofs.Common.{ap, ◌∙◌, ℕ, List}
use Rattle.entry_table.specs.PlaceLists.{PlaceLists, empty_lists}
use Rattle.entry_table.specs.PlacedEntries.{room}
use Rattle.entry_table.specs.IndexLists.{connection_lists}
use Rattle.entry_table.proofs.index.Index.new.Goals as goal

pub returns : goal.returns
returns c =
    ap (λ (l : PlaceLists). record { points = c.args.points; by_connection = l; by_texts = c.in_ok-new-2.field-0; shapes = c.in_ok-new-3.field-0 }) c.in_ok-new.ensures
    ∙ ap (λ (l : PlaceLists). record { points = c.args.points; by_connection = empty_lists connection_lists room; by_texts = l; shapes = c.in_ok-new-3.field-0 }) c.in_ok-new-2.ensures
    ∙ ap (λ (counts : List ℕ). record { points = c.args.points; by_connection = empty_lists connection_lists room; by_texts = empty_lists 32769 room; shapes = counts }) c.in_ok-new-3.ensures
