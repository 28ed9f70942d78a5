-- Lists of all events so far: their commands, and the state of the bus that these lead to (own).
use Rattle.std.specs.Prelude.{ℕ, List, [], ◌∷◌}
use Rattle.std.specs.List.{flat_map}
use Rattle.program_table.specs.declared.command.Command.{Command}
use Rattle.program_table.specs.State.{State}
use Rattle.program_table.specs.History.{after}
use Rattle.world.specs.declared.event.Event.{Event}
use Rattle.world.specs.declared.event.Event.TheVariants as events

abbrev pub commands_of : Event → List (Command (Unit {0}))
commands_of (events.Command command) = command ∷ []
commands_of (events.Begin sender bytes) = []
commands_of (events.Piece job part) = []
commands_of (events.End job) = []

-- the commands among the events, in order
abbrev pub commands_in : List Event → List (Command (Unit {0}))
commands_in all = flat_map commands_of all

-- the state of the bus after the events
abbrev pub state_after : List Event → State (Unit {0})
state_after all = after (commands_in all)

-- how many events there can be
abbrev pub max_events : ℕ
max_events = 18446744073709551615
