-- What clauses see of a session (own).
use Rattle.std.specs.Prelude.{Bool, false, ℕ, List, [], Option, Some, None}
use Rattle.auth.specs.Talk.{Standing, opening_with}
use Rattle.auth.specs.declared.terms.Terms.{Terms}
use Rattle.outbox.specs.Seated.{OutboxId}
use Rattle.peers.specs.PeerState.{PeerState, peer_written}
use Rattle.sessions.specs.declared.client.Client.{Client}
use Rattle.sessions.specs.declared.client.Client.TheVariants.{Newcomer, Peer}
use Rattle.sessions.specs.declared.error.SessionError.{SessionError}

-- where the talk stands, and whether it is over; the bytes that were fed and not handled; the client's outbox before Hello, and
-- its peer, once Hello made it; and why the session ends
pub record SessionState (M : Type 0) : Type 0 where
  pub standing : Standing
  pub has_begun : Bool
  pub unread : List ℕ
  pub outbox : Option OutboxId
  pub peer : Option (PeerState M)
  pub fault : Option SessionError

-- before the first byte, of a client with this outbox, on these terms
abbrev pub new_session : {M : Type 0} → OutboxId → Terms → SessionState M
new_session outbox terms = record { standing = opening_with terms; has_begun = false; unread = []; outbox = Some outbox; peer = None; fault = None }

-- the outbox that a client has without a peer
abbrev pub own_outbox : {B M : Type 0} → Client B M → Option OutboxId
own_outbox (Newcomer own) = Some own.outbox
own_outbox _ = None

-- the peer of a client that has said Hello
abbrev pub peer_of : {B M : Type 0} → Client B M → Option (PeerState M)
peer_of (Peer v) = Some v
peer_of _ = None

-- a peer has the outbox that its client had before
abbrev pub outbox_after : {M : Type 0} → Option (PeerState M) → Option OutboxId → Option OutboxId
outbox_after (Some _) outbox = None
outbox_after None outbox = outbox

-- the number of the connection of a client whose peer is there
abbrev pub connection_of : {M : Type 0} → Option (PeerState M) → Option ℕ
connection_of (Some v) = Some v.pass.connection
connection_of None = None

-- Nothing that was put, to the client or to others, waits to be written out any more. Before Hello clauses don't see what its
-- outbox has.
abbrev pub client_written : {M : Type 0} → Option (PeerState M) → Option (PeerState M)
client_written None = None
client_written (Some v) = Some (peer_written v)
