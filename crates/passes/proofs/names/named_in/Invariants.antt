use Rattle.std.proofs.Common.{take}
use Rattle.program_table.specs.Connections.{numbers_of}
use Rattle.passes.specs.NameSearch.{NoneIsNamed}
use Rattle.passes.proofs.names.named_in.Given as goal

abbrev pub invariant-loop-connection : goal.invariant-loop-connection
invariant-loop-connection g l = NoneIsNamed l.text (numbers_of (take l.connection-index l.connections))
