use Rattle.std.proofs.Common.{subst, sym, ap, ◌∙◌, arith, List, length}
use Rattle.entry_table.specs.declared.index.Index.{Index}
use Rattle.entry_table.specs.declared.index.Standing.{Standing}
use Rattle.entry_table.specs.PlacedEntries.{Placed}
use Rattle.entry_table.specs.IndexLists.{IsIndexed, CanStand, standing_of, with_place}
use Rattle.entry_table.proofs.Indexing.{IsIndexed-put, CanStand-put}
use Rattle.entry_table.proofs.indexed_entries.IndexedEntries.put.Goals as goal

pub add-requires : goal.add-requires
add-requires c =
    let i = c.self.inside in
    subst (CanStand i.index c.put-place.result) (sym c.standing_of-standing.ensures)
    (CanStand-put i.index i.slab c.put-place.result c.args.entry c.self.invariant c.put-place.ensures.fresh c.put-place.ensures.below (omega (arith, c.requires.few, ap (λ (held : List Placed). length held) c.self.view_is)))

pub invariant_of-self : goal.invariant_of-self
invariant_of-self c =
    let i = c.self.inside in
    subst (λ (index : Index). IsIndexed index c.put-place.new.self) (sym (c.add.ensures ∙ ap (λ (s : Standing). with_place c.put-place.result s i.index) c.standing_of-standing.ensures))
    (subst (IsIndexed (with_place c.put-place.result (standing_of i.index.points c.args.entry) i.index)) (sym c.put-place.ensures.put) (IsIndexed-put i.index i.slab c.put-place.result c.args.entry c.self.invariant c.put-place.ensures.fresh))
