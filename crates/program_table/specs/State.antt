-- The state of the bus (D-Bus Specification, "Message Bus Overview").
use Rattle.std.specs.Prelude.{ℕ, List, []}
use Rattle.program_table.specs.declared.capacity.Capacity.{Capacity}
use Rattle.program_table.specs.declared.connection.Connection.{Connection}
use Rattle.program_table.specs.Capacities.{standard_capacity}
use Rattle.program_table.specs.Registrations.{Registrations, no_registrations}

-- how many commands were accepted; how much there may be; the connections by rising number and the last number that was
-- given; their claims and entries
pub record State (M : Type 0) : Type 0 where
  pub commands : ℕ
  pub capacity : Capacity
  pub connections : List (Connection M)
  pub last_connection : ℕ
  pub registrations : Registrations

-- nobody is connected, no command was accepted, and there may be as much as isn't told otherwise
abbrev pub opening : {M : Type 0} → State M
opening = record { commands = 0; capacity = standard_capacity; connections = []; last_connection = 0; registrations = no_registrations }
