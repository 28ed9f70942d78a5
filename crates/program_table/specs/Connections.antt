-- The connections of a bus, numbered in the order in which they were made (D-Bus Specification, "Message Bus Names":
-- a unique name is never used again).
use Rattle.std.specs.Prelude.{ℕ, ◌+◌, Bool, not, ◌||◌, List, Option, length, map, filter, find, option_map, is_some, unwrap_or, nat_le, ◌==◌, if◌then◌else◌}
use Rattle.program_table.specs.declared.connection.Connection.{Connection}

-- how many connections a bus has at most, whatever else it is told
abbrev pub max_connections : ℕ
max_connections = 4096

module _ {M : Type 0} where
  -- there are this many connections, or as many as there may be at most
  abbrev pub are_full : ℕ → List (Connection M) → Bool
  are_full most connections = nat_le max_connections (length connections) || nat_le most (length connections)

  abbrev pub numbers_of : List (Connection M) → List ℕ
  numbers_of connections = map (λ (c : Connection M). c.number) connections

  abbrev pub has_number : ℕ → Connection M → Bool
  has_number number c = c.number == number

  -- the connection of this number
  abbrev pub connection_of : ℕ → List (Connection M) → Option (Connection M)
  connection_of number connections = find (has_number number) connections

  abbrev pub is_connected : ℕ → List (Connection M) → Bool
  is_connected number connections = is_some (connection_of number connections)

  abbrev pub mailbox_of : ℕ → List (Connection M) → Option M
  mailbox_of number connections = option_map (λ (c : Connection M). c.mailbox) (connection_of number connections)

  -- how many commands of it were accepted, 0 where it isn't connected
  abbrev pub commands_of : ℕ → List (Connection M) → ℕ
  commands_of number connections = unwrap_or (option_map (λ (c : Connection M). c.commands) (connection_of number connections)) 0

  abbrev pub one_more_if : Bool → Connection M → Connection M
  one_more_if b c = record { number = c.number; mailbox = c.mailbox; commands = c.commands + (if b then 1 else 0) }

  -- one more command of the connection was accepted
  abbrev pub with_command : ℕ → List (Connection M) → List (Connection M)
  with_command number connections = map (λ (c : Connection M). one_more_if (has_number number c) c) connections

  -- the others
  abbrev pub without_connection : ℕ → List (Connection M) → List (Connection M)
  without_connection number connections = filter (λ (c : Connection M). not (has_number number c)) connections
