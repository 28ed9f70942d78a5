-- Inner: the status of each fault.
use Rattle.std.specs.Prelude.{ℕ}
use Rattle.serve_command.specs.declared.error.Fault.{Fault}
use Rattle.serve_command.specs.declared.error.Fault.TheVariants.{Usage, File, Socket, Memory}

abbrev pub status_of : Fault → ℕ
status_of Usage = 3
status_of File = 4
status_of Socket = 4
status_of Memory = 5
