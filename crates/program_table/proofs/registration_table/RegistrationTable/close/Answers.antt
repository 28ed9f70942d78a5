use Rattle.std.proofs.Common.{◌∙◌, ap}
use Rattle.program_table.specs.Registrations.{without_all_of}
use Rattle.program_table.proofs.registration_table.RegistrationTable.close.Goals as goal

pub returns : goal.returns
returns c = c.remove_all.ensures.gone ∙ ap (without_all_of c.args.connection) c.self.view_is
