-- What a session's steps come to over its client's whole stream (own).
use Rattle.std.specs.Prelude.{ℕ, ◌≡◌, List, [], ◌∷◌, ◌++◌, Ok}
use Rattle.outbox.specs.Seated.{OutboxId}
use Rattle.peers.specs.declared.shares.Shares.{Shares}
use Rattle.sessions.specs.SessionState.{SessionState}
use Rattle.sessions.specs.Steps.{Feeds, HandlesNext}
use Rattle.sessions.specs.Subjects.{HasLooked}

-- bytes are fed, or a message is handled, or it is only looked at what comes next
pub data Event : Type 0 where
  fed : List ℕ → Event
  handled : List ℕ → Event
  looked : Event

-- all bytes that were fed
abbrev pub bytes_fed : List Event → List ℕ
bytes_fed [] = []
bytes_fed (fed bytes ∷ later) = bytes ++ bytes_fed later
bytes_fed (handled message ∷ later) = bytes_fed later
bytes_fed (looked ∷ later) = bytes_fed later

-- all messages that were handled, in order
abbrev pub messages_handled : List Event → List (List ℕ)
messages_handled [] = []
messages_handled (fed bytes ∷ later) = messages_handled later
messages_handled (handled message ∷ later) = message ∷ messages_handled later
messages_handled (looked ∷ later) = messages_handled later

module _ {M : Type 0} where
  -- a session went through these, one after the other
  abbrev pub Runs : (M → OutboxId) → Shares → List Event → SessionState M → SessionState M → Type 0
  Runs outbox_of shares [] v w = w ≡ v
  Runs outbox_of shares (fed bytes ∷ later) v w = (mid : SessionState M) × Feeds bytes v (Ok tt) mid × Runs outbox_of shares later mid w
  Runs outbox_of shares (handled message ∷ later) v w = (mid : SessionState M) × HandlesNext outbox_of shares message v mid × Runs outbox_of shares later mid w
  Runs outbox_of shares (looked ∷ later) v w = (mid : SessionState M) × HasLooked v mid × Runs outbox_of shares later mid w
