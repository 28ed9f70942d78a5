use Rattle.std.proofs.Common.{◌<◌, ◌+◌, List, subst, sym, ap, arith, length, refl, eqb}
use Rattle.std.proofs.lemmas.Bool.{or_parts, leb-false}
use Rattle.std.specs.Prelude.{nat_le}
use Rattle.entry_table.specs.declared.entry.Entry.{Entry}
use Rattle.entry_table.specs.Entries.{Entries, max_id}
use Rattle.entry_table.specs.PlacedEntries.{Placed}
use Rattle.entry_table.specs.Searching.{IsTable}
use Rattle.entry_table.proofs.Finding.{AreBelow-last, IsTable-more, length-entries_of}
use Rattle.entry_table.proofs.table.EntryTable.add.Goals as goal

pub put-requires-clause-newest : goal.put-requires-clause-newest
put-requires-clause-newest c = AreBelow-last c.self.inside.last c.self.inside.slab c.self.invariant.below_last

pub invariant_of-self : goal.invariant_of-self
invariant_of-self c =
    let i = c.self.inside in
    let entry : Entry = record { id = i.last + 1; connection = c.args.connection; filter = c.args.filter } in
    let parts = or_parts (nat_le 65534 (length c.args.self.now.entries)) (eqb c.args.self.now.last max_id) c.requires in
    let few : length i.slab < 65534 = omega (arith, leb-false 65534 (length c.args.self.now.entries) parts.0, ap (λ (t : Entries). length t.entries) c.self.view_is, length-entries_of i.slab) in
    subst (λ (held : List Placed). IsTable held (i.last + 1) (i.count + 1)) (sym c.put.ensures) (IsTable-more c.put.result entry i.slab i.last i.count c.self.invariant refl few)
