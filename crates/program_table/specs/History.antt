-- Histories: lists of accepted commands, from the opening state (own).
use Rattle.std.specs.Prelude.{◌≡◌, ℕ, ◌+◌, Bool, true, false, List, [], ◌∷◌, fold, ◌==◌, ◌&&◌, if◌then◌else◌}
use Rattle.program_table.specs.declared.command.Command.{Command}
use Rattle.program_table.specs.declared.command.Command.TheVariants.{Limit, Connect, AddRule, RemoveRule, Attach, Detach, Request, Release, DropOne, Close}
use Rattle.program_table.specs.State.{State, opening}
use Rattle.program_table.specs.Does.{next_of, is_accepted}

module _ {M : Type 0} where
  -- the state after the commands
  abbrev pub after : List (Command M) → State M
  after commands = fold next_of opening commands

  -- each command is accepted where it stands
  abbrev pub are_accepted : State M → List (Command M) → Bool
  are_accepted s [] = true
  are_accepted s (command ∷ commands) = is_accepted s command && are_accepted (next_of s command) commands

  abbrev pub IsHistory : List (Command M) → Type 0
  IsHistory commands = are_accepted opening commands ≡ true

  -- the command names the connection, or is the Connect that makes it
  abbrev pub is_command_of : State M → ℕ → Command M → Bool
  is_command_of s c (Limit most) = false
  is_command_of s c (Connect m) = c == (s.last_connection + 1)
  is_command_of s c (AddRule d compiled) = c == d
  is_command_of s c (RemoveRule d rule) = c == d
  is_command_of s c (Attach d attachment) = c == d
  is_command_of s c (Detach d id) = c == d
  is_command_of s c (Request d name flags) = c == d
  is_command_of s c (Release d name) = c == d
  is_command_of s c (DropOne d) = c == d
  is_command_of s c (Close d) = c == d

  abbrev pub own_from : State M → ℕ → List (Command M) → List (Command M)
  own_from s c [] = []
  own_from s c (command ∷ commands) =
      if is_command_of s c command then command ∷ own_from (next_of s command) c commands
      else own_from (next_of s command) c commands

  -- the commands of a connection, in order
  abbrev pub own_commands : ℕ → List (Command M) → List (Command M)
  own_commands c commands = own_from opening c commands
