use Rattle.std.proofs.Common.{ap, ◌∙◌, take}
use Rattle.owners.specs.Registry.{slot_of}
use Rattle.owners.proofs.FreeSlots.{slot_below}
use Rattle.owners.proofs.holdings.Holdings.slot_of.Goals as goal

pub returns : goal.returns
returns c =
    let name = c.args.name.now in
    c.slot_of.ensures
    ∙ ap (λ l. slot_of name (take c.self.inside.used l)) c.deref.ensures.value
    ∙ slot_below c.self.inside.used c.self.inside.slots.items c.self.invariant name
    ∙ ap (slot_of name) c.self.view_is
