-- The statuses of faults (own).
use Rattle.std.specs.Prelude.{ℕ}
use Rattle.command_line.specs.Errors.{fault_status}
use Rattle.watch_command.specs.declared.error.Fault.{Fault}
use Rattle.watch_command.specs.declared.error.Fault.TheVariants.{Tool, Capture, Filter, Socket, Auth, Refused, NoPrograms, NoMonitor, NoMatchRules, NoConnection, WithoutRules}

abbrev pub status_of : Fault → ℕ
status_of (Tool fault) = fault_status fault
status_of (Capture fault) = 2
status_of (Filter fault) = 2
status_of Socket = 4
status_of Auth = 4
status_of (Refused name) = 2
status_of (NoPrograms name) = 2
status_of (NoMonitor name) = 2
status_of (NoMatchRules name) = 2
status_of (NoConnection name) = 2
status_of (WithoutRules name) = 2
