-- Inner: the connections and the last number that was given.
use Rattle.std.specs.Prelude.{ℕ, ◌+◌, ◌≤◌, List, [], ◌∷◌, ◌++◌, All, length}
use Rattle.std.specs.List.Sorted.{IsStrictlyIncreasing}
use Rattle.program_table.specs.declared.connection.Connection.{Connection}
use Rattle.program_table.specs.Connections.{numbers_of, max_connections}

pub record ConnectionList (M : Type 0) : Type 0 where
  pub connections : List (Connection M)
  pub last : ℕ

-- numbers rise from 1 to the last one, and there are at most 4,096
pub record IsConnectionList {M : Type 0} (c : ConnectionList M) : Type 0 where
  pub rising : IsStrictlyIncreasing (numbers_of c.connections)
  pub below_last : All (λ n. n ≤ c.last) (numbers_of c.connections)
  pub few : length c.connections ≤ max_connections

module _ {M : Type 0} where
  -- one more connection, with the next number, whose Connect is its first command
  abbrev pub with_connection : ConnectionList M → M → ConnectionList M
  with_connection c m =
      record { connections = c.connections ++ record { number = c.last + 1; mailbox = m; commands = 1 } ∷ []; last = c.last + 1 }
