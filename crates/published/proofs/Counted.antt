-- How many commands of a history are a connection's.
use Rattle.std.proofs.Common.{◌≡◌, ℕ, true, List, length, Option, Some, None, refl}
use Rattle.std.specs.Prelude.{is_some, option_map, unwrap_or, if◌then◌else◌}
use Rattle.program_table.specs.declared.command.Command.{Command}
use Rattle.program_table.specs.declared.connection.Connection.{Connection}
use Rattle.program_table.specs.Connections.{is_connected, connection_of, commands_of}
use Rattle.program_table.specs.History.{after, own_commands, IsHistory}
use Rattle.program_table.proofs.OwnCounts.{own_commands_counted}

module _ {M : Type 0} where
  counted_if : (found : Option (Connection M)) (own : ℕ) → (is_some found ≡ true → unwrap_or (option_map (λ (c : Connection M). c.commands) found) 0 ≡ own)
      → unwrap_or (option_map (λ (c : Connection M). c.commands) found) 0 ≡ (if is_some found then own else 0)
  counted_if None own there = refl
  counted_if (Some c) own there = there refl

  pub commands-owned : (l : List (Command M)) (n : ℕ) → IsHistory l → commands_of n (after l).connections ≡ (if is_connected n (after l).connections then length (own_commands n l) else 0)
  commands-owned l n h = counted_if (connection_of n (after l).connections) (length (own_commands n l)) (own_commands_counted l n h)
