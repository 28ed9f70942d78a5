-- What clauses see of a client on the bus (own).
use Rattle.std.specs.Prelude.{ℕ, Bool, false, List}
use Rattle.outbox.specs.Items.{Item}
use Rattle.outbox.specs.Seated.{OutboxId}
use Rattle.unique_name.specs.UniqueNames.{unique_name}
use Rattle.router.specs.Passes.{PassState}
use Rattle.router.specs.Routes.{pass_written}
use Rattle.peers.specs.declared.identity.Identity.{Identity}
use Rattle.peers.specs.Holdings.{HoldingsState}

-- the client's outbox; whether its turn is still there, for the bus; the messages that the bus put to the client itself, in order;
-- whether the outbox is known to be shut; and whether what was put there, or refused, waits to be written out
pub record OwnState : Type 0 where
  pub outbox : OutboxId
  pub has_turn : Bool
  pub put : List Item
  pub knows_shut : Bool
  pub is_waiting : Bool

-- the outbox's turn was taken
abbrev pub without_turn : OwnState → OwnState
without_turn own = record own { has_turn = false }

-- what its pass has seen and done; what the bus knows of the client's own outbox; the serial of the next message that the
-- bus makes for it; what it is told of the bus; and what it has taken of the bus
pub record PeerState (M : Type 0) : Type 0 where
  pub pass : PassState M
  pub own : OwnState
  pub serial : ℕ
  pub identity : Identity
  pub holdings : HoldingsState

module _ {M : Type 0} where
  -- its unique name
  abbrev pub name_of : PeerState M → List ℕ
  name_of v = unique_name v.pass.connection

  -- nothing that was put, to the client or to others, waits to be written out any more
  abbrev pub peer_written : PeerState M → PeerState M
  peer_written v = record v { pass = pass_written v.pass; own = record v.own { is_waiting = false } }
