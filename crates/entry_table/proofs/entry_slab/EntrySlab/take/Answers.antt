use Rattle.std.proofs.Common.{◌≡◌, true, sym, subst, ap, ◌∙◌, ℕ, List, get_or}
use Rattle.std.specs.Prelude.{Option, None, is_some, IsSome}
use Rattle.entry_table.specs.PlaceLists.{has_place}
use Rattle.entry_table.specs.declared.entry.Entry.{Entry}
use Rattle.entry_table.specs.PlacedEntries.{Placed, placed_from, places_of, entry_at, but_at}
use Rattle.entry_table.proofs.Slabs.{has_place-entry_at, entry_at-placed, placed-take}
use Rattle.entry_table.proofs.entry_slab.EntrySlab.take.Goals as goal

pub remove-requires : goal.remove-requires
remove-requires c =
    let slots = c.self.inside.entries.slots in
    let some : is_some (get_or slots c.args.place None) ≡ true =
    ap (λ (o : Option Entry). is_some o) (sym (entry_at-placed c.args.place slots)) ∙ sym (has_place-entry_at c.args.place (placed_from 0 slots)) ∙ ap (λ (held : List Placed). has_place c.args.place (places_of held)) c.self.view_is ∙ c.requires in
    subst (λ (key : ℕ). IsSome (get_or slots key None)) (sym c.from.ensures) some

pub returns-clause-entry : goal.returns-clause-entry
returns-clause-entry c =
    let slots = c.self.inside.entries.slots in
    ap (entry_at c.args.place) (sym c.self.view_is) ∙ entry_at-placed c.args.place slots ∙ ap (λ (k : ℕ). get_or slots k None) (sym c.from.ensures) ∙ c.remove.ensures.value

pub returns-clause-rest : goal.returns-clause-rest
returns-clause-rest c =
    let slots = c.self.inside.entries.slots in
    placed-take c.from.result slots c.remove.new.self.slots c.remove.ensures.updates.changed c.remove.ensures.updates.others
    ∙ ap (λ (place : ℕ). but_at place (placed_from 0 slots)) c.from.ensures
    ∙ ap (but_at c.args.place) c.self.view_is
