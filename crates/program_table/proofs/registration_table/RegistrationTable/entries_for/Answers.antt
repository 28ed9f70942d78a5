use Rattle.program_table.proofs.Sound.{registrations_sound}
use Rattle.program_table.proofs.registration_table.RegistrationTable.entries_for.Goals as goal

pub returns-clause-sound : goal.returns-clause-sound
returns-clause-sound c = rw (← c.self.view_is) (registrations_sound c.self.inside.names c.self.inside.entries c.self.invariant)
