use Rattle.program_table.proofs.OwnCounts.{commands_counted, own_commands_counted}
use Rattle.program_table.proofs.laws.commands_are_counted.Goals as goal

pub returns-clause-all : goal.returns-clause-all
returns-clause-all g c = commands_counted

pub returns-clause-own : goal.returns-clause-own
returns-clause-own g c = own_commands_counted
