use Rattle.std.proofs.Common.{◌≡◌, false, ◌∷◌, subst, sym, ap, ◌∙◌, arith, List, length}
use Rattle.std.specs.Prelude.{Option, is_some}
use Rattle.entry_table.specs.PlaceLists.{has_place}
use Rattle.entry_table.specs.declared.entry.Entry.{Entry}
use Rattle.entry_table.specs.PlacedEntries.{Placed, placed_from, places_of}
use Rattle.entry_table.specs.Searching.{AreBelow}
use Rattle.entry_table.proofs.Slabs.{has_place-entry_at, entry_at-placed, length-placed, placed-put}
use Rattle.entry_table.proofs.entry_slab.EntrySlab.put.Goals as goal

pub insert_reserved-requires : goal.insert_reserved-requires
insert_reserved-requires c =
    omega (arith, c.requires.few, ap (λ (held : List Placed). length held) c.self.view_is, length-placed 0 c.self.inside.entries.slots, c.self.invariant.capacity)

pub returns-clause-put : goal.returns-clause-put
returns-clause-put c =
    let put = c.insert_reserved in
    placed-put put.result c.args.entry c.self.inside.entries.slots put.new.self.slots put.ensures.was_vacant put.ensures.updates.changed put.ensures.updates.others (subst (AreBelow c.args.entry.id) (sym c.self.view_is) c.requires.newest)
    ∙ ap (λ (held : List Placed). (put.result, c.args.entry) ∷ held) c.self.view_is

pub returns-clause-fresh : goal.returns-clause-fresh
returns-clause-fresh c =
    let slots = c.self.inside.entries.slots in
    let put = c.insert_reserved in
    subst (λ (held : List Placed). has_place put.result (places_of held) ≡ false) c.self.view_is
    (has_place-entry_at put.result (placed_from 0 slots) ∙ ap (λ (o : Option Entry). is_some o) (entry_at-placed put.result slots ∙ put.ensures.was_vacant))
