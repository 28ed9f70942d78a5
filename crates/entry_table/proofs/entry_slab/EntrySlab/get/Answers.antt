use Rattle.std.proofs.Common.{sym, ap, ◌∙◌, ℕ, List, get_or, subst}
use Rattle.std.specs.Prelude.{None}
use Rattle.entry_table.specs.PlaceLists.{AreOnce}
use Rattle.entry_table.specs.PlacedEntries.{Placed, places_of, entry_at}
use Rattle.entry_table.proofs.Slabs.{AreOnce-placed, entry_at-placed}
use Rattle.entry_table.proofs.entry_slab.EntrySlab.get.Goals as goal

pub returns-clause-once : goal.returns-clause-once
returns-clause-once c = subst (λ (held : List Placed). AreOnce (places_of held)) c.self.view_is (AreOnce-placed 0 c.self.inside.entries.slots)

pub returns-clause-entry : goal.returns-clause-entry
returns-clause-entry c =
    let slots = c.self.inside.entries.slots in
    c.get.ensures ∙ ap (λ (k : ℕ). get_or slots k None) c.from.ensures ∙ sym (entry_at-placed c.args.place slots) ∙ ap (entry_at c.args.place) c.self.view_is
