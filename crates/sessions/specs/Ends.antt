-- How a session ends (own).
use Rattle.std.specs.Prelude.{◌≡◌, Option, Some, None, Result, Ok}
use Rattle.outbox.specs.Seated.{OutboxId}
use Rattle.peers.specs.declared.error.AnswerError.{AnswerError}
use Rattle.peers.specs.declared.leaving.Leaving.{Leaving}
use Rattle.peers.specs.declared.leaving.Leaving.TheVariants.{Done, Ended, Refused}
use Rattle.peers.specs.Departure.{Leaves, HasLeft}
use Rattle.peers.specs.PeerState.{PeerState}
use Rattle.sessions.specs.Steps.{outcome_of}
use Rattle.sessions.specs.declared.error.SessionError.{SessionError}

module _ {M : Type 0} where
  -- a peer that is still on the bus is what is left of the session
  abbrev pub IsLeftOf : Leaving → PeerState M → Option (PeerState M) → Type 0
  IsLeftOf Refused w rest = rest ≡ Some w
  IsLeftOf Done w rest = rest ≡ None
  IsLeftOf Ended w rest = rest ≡ None

  -- The peer leaves the bus: it has closed its pass, or the bus has ended, or it is handed on. The result is what became of the
  -- messages that tell of its leaving.
  abbrev pub Ends : (M → OutboxId) → PeerState M → Result (Unit {0}) SessionError → Option (PeerState M) → Type 0
  Ends outbox_of v result rest =
      (leaving : Leaving) × (told : Result (Unit {0}) AnswerError) × (w : PeerState M) × Leaves outbox_of v leaving told w × HasLeft leaving w × IsLeftOf leaving w rest × (result ≡ outcome_of told)

  -- that of a session that may have no peer
  abbrev pub EndsAny : (M → OutboxId) → Option (PeerState M) → Result (Unit {0}) SessionError → Option (PeerState M) → Type 0
  EndsAny outbox_of None result rest = (result ≡ Ok tt) × (rest ≡ None)
  EndsAny outbox_of (Some v) result rest = Ends outbox_of v result rest
