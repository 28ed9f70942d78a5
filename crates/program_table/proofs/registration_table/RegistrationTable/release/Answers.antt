use Rattle.std.proofs.Common.{◌∙◌, ap, Some}
use Rattle.owners.specs.Queues.{without}
use Rattle.program_table.specs.Registrations.{without_claim}
use Rattle.program_table.proofs.Tying.{settled_tie, settled_view}
use Rattle.program_table.proofs.registration_table.RegistrationTable.release.Goals as goal

pub invariant_of-self : goal.invariant_of-self
invariant_of-self c =
    settled_tie c.self.inside.names c.release.new.self c.self.inside.entries (without c.args.name.now c.args.connection c.self.inside.names.claims) c.self.invariant c.release.ensures.registry c.release.ensures.after

pub returns : goal.returns
returns c =
    settled_view c.self.inside.names c.release.new.self c.self.inside.entries (without c.args.name.now c.args.connection c.self.inside.names.claims) c.self.invariant c.release.ensures.after
    ∙ ap (without_claim c.args.connection (Some c.args.name.now)) c.self.view_is
