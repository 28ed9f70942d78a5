use Rattle.std.proofs.Common.{arith}
use Rattle.unique_name.proofs.BusNames.{unique_name-is_bus_name}
use Rattle.unique_name.proofs.unique_name.UniqueName.as_str.Goals as goal

pub returns-clause-valid : goal.returns-clause-valid
returns-clause-valid c = rw (c.as_str.ensures.value, c.self.invariant) (unique_name-is_bus_name c.self.inside.number (omega arith))
