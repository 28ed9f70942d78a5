-- Inner: numbers and counts stay below the count of all commands.
use Rattle.std.specs.Prelude.{◌≡◌, ℕ, ◌≤◌, true, nat_le}
use Rattle.std.specs.List.{list_all}
use Rattle.program_table.specs.declared.connection.Connection.{Connection}
use Rattle.program_table.specs.ConnectionList.{ConnectionList}

pub record AreCounts {M : Type 0} (commands : ℕ) (c : ConnectionList M) : Type 0 where
  pub numbered : c.last ≤ commands
  pub counted : list_all (λ (x : Connection M). nat_le x.commands commands) c.connections ≡ true
