use Rattle.std.proofs.Common.{ap, refl}
use Rattle.entry_table.specs.Entries.{Entries}
use Rattle.program_table.proofs.Adding.{added_tie}
use Rattle.program_table.proofs.registration_table.RegistrationTable.attach.Goals as goal

pub invariant_of-self : goal.invariant_of-self
invariant_of-self c =
    added_tie c.self.inside.names c.self.inside.entries c.add.new.self _ c.self.invariant c.last_id.ensures.sound (ap (λ (all : Entries). all.entries) c.add.ensures.added) refl
