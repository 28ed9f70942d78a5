use Rattle.std.proofs.Common.{◌∙◌, ap, Some}
use Rattle.program_table.specs.Registrations.{without_entry}
use Rattle.program_table.proofs.registration_table.RegistrationTable.remove_entry.Goals as goal

pub returns : goal.returns
returns c = c.remove_entry.ensures.gone ∙ ap (without_entry c.args.connection (Some c.args.id)) c.self.view_is
