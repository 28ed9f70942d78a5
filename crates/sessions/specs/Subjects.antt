-- Whom the next message of a session asks the bus about (own).
use Rattle.std.specs.Prelude.{ℕ, ◌≡◌, ◌⊎◌, ◌++◌, List, Option, Some, None}
use Rattle.message_view.specs.Message.{Message}
use Rattle.message_view.specs.Valid.{Valid}
use Rattle.frames.specs.Stream.{IsMessage}
use Rattle.peers.specs.History.{after}
use Rattle.peers.specs.Passing.{HasSeenMore, with_pass}
use Rattle.peers.specs.PeerState.{PeerState}
use Rattle.peers.specs.Subjects.{IsSubject}
use Rattle.sessions.specs.SessionState.{SessionState}

module _ {M : Type 0} where
  -- a client's pass may have seen more, and nothing was done
  abbrev pub MayHaveSeen : Option (PeerState M) → Option (PeerState M) → Type 0
  MayHaveSeen v w = (w ≡ v) ⊎ ((p q : PeerState M) × (v ≡ Some p) × (w ≡ Some q) × HasSeenMore p.pass q.pass × (q ≡ with_pass p q.pass))

  -- the message of these bytes is a call of this client that is about a connection, after what its pass has seen
  abbrev pub IsSubjectOf : List ℕ → Option (PeerState M) → ℕ → Type 0
  IsSubjectOf bytes None number = ⊥
  IsSubjectOf bytes (Some v) number = (m : Message) → Valid bytes m → IsSubject (after v.pass.seen) m v.pass.connection number

  -- the message that comes next is one
  abbrev pub IsNextSubject : List ℕ → Option (PeerState M) → ℕ → Type 0
  IsNextSubject unread client number = (message rest : List ℕ) × IsMessage message × (unread ≡ message ++ rest) × IsSubjectOf message client number

  -- a session has only looked at what comes next
  abbrev pub HasLooked : SessionState M → SessionState M → Type 0
  HasLooked v w = MayHaveSeen v.peer w.peer × (w ≡ record v { peer = w.peer })
