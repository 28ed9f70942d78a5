-- The calls of a pass that may change who owns a name (D-Bus Specification, "Message Bus Messages": RequestName, ReleaseName).
use Rattle.std.specs.Prelude.{◌≡◌, ℕ, Option, Some, None, Result, Ok, Err}
use mathlib.Core.List.{IsPrefix}
use Rattle.owners.specs.declared.answer.Change.{Change}
use Rattle.program_table.specs.declared.command.Command.{Command}
use Rattle.program_table.specs.declared.command.Command.TheVariants as commands
use Rattle.program_table.specs.declared.command.Reply.{Reply}
use Rattle.program_table.specs.declared.command.Reply.TheVariants.{Name, Changed}
use Rattle.program_table.specs.Does.{reply_to}
use Rattle.program_table.specs.History.{after}
use Rattle.published.specs.Publication.{Publication}
use Rattle.passes.specs.declared.error.BusError.{BusError}
use Rattle.passes.specs.declared.error.BusError.TheVariants.{Closed}
use Rattle.passes.specs.declared.name_call.NameCall.{NameCall}
use Rattle.passes.specs.declared.name_call.NameCall.TheVariants.{Request, Release, DropOne}
use Rattle.passes.specs.Calls.{IsStopped, IsShutOut, shut_out}
use Rattle.passes.specs.Passes.{PassState}

-- the change of a name's owner that a reply tells of
abbrev pub change_in : Reply → Option Change
change_in (Name named) = named.change
change_in (Changed change) = Some change
change_in _ = None

module _ {M : Type 0} where
  -- the command of a connection that the call publishes
  abbrev pub command_of : ℕ → NameCall → Command M
  command_of connection (Request name flags) = commands.Request connection name flags
  command_of connection (Release name) = commands.Release connection name
  command_of connection DropOne = commands.DropOne connection

  -- The change that the command would make after what is published is told, and the pass has then seen that. Or the pass may not
  -- call, and nothing is told.
  abbrev pub Foresees : PassState M → Publication M → Command M → Result (Option Change) BusError → PassState M → Type 0
  Foresees v now command (Ok change) w = (change ≡ change_in (reply_to (after now.history) command)) × IsPrefix v.seen now.history × (w ≡ record v { seen = now.history })
  Foresees v now command (Err error) w = (error ≡ Closed) × IsStopped (shut_out v) now w now × IsShutOut v now
