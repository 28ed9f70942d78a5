-- Inner: entries and claims are of connections.
use Rattle.std.specs.Prelude.{◌≡◌, true, List}
use Rattle.std.specs.List.{list_all}
use Rattle.owners.specs.Queues.{Claim}
use Rattle.entry_table.specs.declared.entry.Entry.{Entry}
use Rattle.program_table.specs.declared.connection.Connection.{Connection}
use Rattle.program_table.specs.Connections.{is_connected}
use Rattle.program_table.specs.Registrations.{Registrations}

pub record AreOfConnections {M : Type 0} (connections : List (Connection M)) (r : Registrations) : Type 0 where
  pub entries : list_all (λ (e : Entry). is_connected e.connection connections) r.entries ≡ true
  pub claims : list_all (λ (c : Claim). is_connected c.connection connections) r.claims ≡ true
