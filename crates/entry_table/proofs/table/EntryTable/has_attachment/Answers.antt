use Rattle.std.proofs.Common.{ap, ◌∙◌}
use Rattle.std.specs.List.{list_any}
use Rattle.entry_table.specs.declared.search.Wanted.TheVariants.{Attachment}
use Rattle.entry_table.specs.Entries.{Entries, is_attachment}
use Rattle.entry_table.proofs.Finding.{searched, found-any}
use Rattle.entry_table.proofs.table.EntryTable.has_attachment.Goals as goal

pub returns : goal.returns
returns c =
    let held = c.self.inside.slab in
    let test = is_attachment c.args.connection c.args.id in
    let f = searched held (Attachment c.args.id) c.args.connection c.of_connection.result c.last_place-found.result c.of_connection.ensures.once c.of_connection.ensures.value c.last_place-found.ensures in
    c.is_some.ensures ∙ found-any held test c.last_place-found.result f ∙ ap (λ (t : Entries). list_any test t.entries) c.self.view_is
