use Rattle.std.proofs.Common.{◌∙◌, ap}
use Rattle.owners.specs.Registry.{least_of}
use Rattle.program_table.specs.Registrations.{Registrations, without_claim}
use Rattle.program_table.proofs.Tying.{dropped_tie, dropped_view}
use Rattle.program_table.proofs.registration_table.RegistrationTable.drop_one.Goals as goal

pub invariant_of-self : goal.invariant_of-self
invariant_of-self c =
    dropped_tie (least_of c.args.connection c.self.inside.names.claims) c.args.connection c.self.inside.names c.drop_one.new.self c.self.inside.entries c.self.invariant c.drop_one.ensures.registry c.drop_one.ensures.after

pub returns : goal.returns
returns c =
    dropped_view (least_of c.args.connection c.self.inside.names.claims) c.args.connection c.self.inside.names c.drop_one.new.self c.self.inside.entries c.self.invariant c.drop_one.ensures.after
    ∙ ap (λ (r : Registrations). without_claim c.args.connection (least_of c.args.connection r.claims) r) c.self.view_is
