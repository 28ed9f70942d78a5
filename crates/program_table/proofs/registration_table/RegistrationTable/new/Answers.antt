use Rattle.program_table.proofs.Beginning.{opening_tie, opening_view}
use Rattle.program_table.proofs.registration_table.RegistrationTable.new.Goals as goal

pub invariant_of-result : goal.invariant_of-result
invariant_of-result c =
    opening_tie c.in_ok-names.names c.in_ok-entries.entries c.in_ok-names.ensures.opening c.in_ok-entries.ensures c.in_ok-names.ensures.registry c.last_id.ensures.sound

pub returns : goal.returns
returns c = opening_view c.in_ok-names.names c.in_ok-entries.entries c.in_ok-names.ensures.opening c.in_ok-entries.ensures
