use Rattle.std.proofs.Common.{◌∙◌, ap}
use Rattle.program_table.specs.SlotNames.{slot_next}
use Rattle.program_table.specs.Registrations.{Registrations}
use Rattle.program_table.proofs.Kept.{next_kept}
use Rattle.program_table.proofs.SlotNumbers.{slot_below}
use Rattle.program_table.proofs.registration_table.RegistrationTable.slot_next.Goals as goal

pub returns-clause-slot : goal.returns-clause-slot
returns-clause-slot c =
    c.slot_next.ensures.slot ∙ next_kept c.args.name.now c.self.inside.names c.self.inside.entries c.self.invariant
    ∙ ap (λ (r : Registrations). slot_next c.args.name.now r.slots) c.self.view_is

pub returns-clause-small : goal.returns-clause-small
returns-clause-small c = slot_below c.args.name.now c.self.inside.names c.slot_next.result c.slot_next.ensures.slot c.slot_next.ensures.registry
