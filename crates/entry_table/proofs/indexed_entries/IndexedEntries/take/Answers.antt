use Rattle.std.proofs.Common.{subst, sym, ap, ◌∙◌}
use Rattle.entry_table.specs.declared.index.Index.{Index}
use Rattle.entry_table.specs.declared.index.Standing.{Standing}
use Rattle.entry_table.specs.IndexLists.{IsIndexed, Stands, standing_of, without_place}
use Rattle.entry_table.proofs.Indexing.{IsIndexed-take, Stands-take}
use Rattle.entry_table.proofs.indexed_entries.IndexedEntries.take.Goals as goal

pub remove-requires : goal.remove-requires
remove-requires c =
    let i = c.self.inside in
    subst (Stands i.index c.args.place) (sym c.standing_of-standing.ensures) (Stands-take i.index i.slab c.args.place c.take-entry.result c.self.invariant c.take-entry.ensures.entry)

pub invariant_of-self : goal.invariant_of-self
invariant_of-self c =
    let i = c.self.inside in
    subst (λ (index : Index). IsIndexed index c.take-entry.new.self) (sym (c.remove.ensures ∙ ap (λ (s : Standing). without_place c.args.place s i.index) c.standing_of-standing.ensures))
    (subst (IsIndexed (without_place c.args.place (standing_of i.index.points c.take-entry.result) i.index)) (sym c.take-entry.ensures.rest) (IsIndexed-take i.index i.slab c.args.place c.take-entry.result c.self.invariant c.take-entry.ensures.entry))
