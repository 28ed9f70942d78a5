-- How a client becomes a monitor (D-Bus Specification, "Message Bus Messages": BecomeMonitor).
use Rattle.std.specs.Prelude.{◌≡◌, ◌⊎◌, Result, Ok, Err}
use Rattle.outbox.specs.Seated.{OutboxId}
use Rattle.bus_messages.specs.declared.body.Body.TheVariants.{Nothing}
use Rattle.peers.specs.declared.error.AnswerError.{AnswerError}
use Rattle.peers.specs.declared.error.AnswerError.TheVariants.{NoMemory}
use Rattle.peers.specs.declared.leaving.Farewell.TheVariants.{Told}
use Rattle.peers.specs.declared.leaving.Leaving.{Leaving}
use Rattle.peers.specs.declared.leaving.Leaving.TheVariants.{Done, Ended, Refused as Kept}
use Rattle.peers.specs.declared.refused.Refused.{Refused}
use Rattle.peers.specs.declared.request.Request.{Request}
use Rattle.peers.specs.Answers.{IsRefused}
use Rattle.peers.specs.Departure.{Departs, HasLeft}
use Rattle.peers.specs.PeerState.{PeerState}
use Rattle.peers.specs.Rows.{Replies}

-- What becomes of a call to leave: one that couldn't leave has no memory for it, and no more has one of whose leaving somebody
-- couldn't be told.
abbrev pub outcome_of : Leaving → Result (Unit {0}) AnswerError → Result (Unit {0}) AnswerError
outcome_of Done (Ok _) = Ok tt
outcome_of Done (Err _) = Err NoMemory
outcome_of Ended _ = Err NoMemory
outcome_of Kept _ = Err NoMemory

module _ {M : Type 0} where
  -- the peer leaves the bus, and its client is told so
  abbrev pub GoesUnder : (M → OutboxId) → PeerState M → Result (Unit {0}) AnswerError → PeerState M → Type 0
  GoesUnder outbox_of v result w = (leaving : Leaving) × (told : Result (Unit {0}) AnswerError) × Departs outbox_of Told v leaving told w × HasLeft leaving w × (result ≡ outcome_of leaving told)

  -- What follows the answer. Where it couldn't be given the session ends.
  abbrev pub GoesUnderOnce : (M → OutboxId) → Result (Unit {0}) AnswerError → PeerState M → Result (Unit {0}) AnswerError → PeerState M → Type 0
  GoesUnderOnce outbox_of (Ok _) v result w = (gone : Result (Unit {0}) AnswerError) × GoesUnder outbox_of v gone w × ((result ≡ gone) ⊎ (result ≡ Err NoMemory))
  GoesUnderOnce outbox_of (Err error) v result w = (result ≡ Err error) × (w ≡ v)

  -- The call is answered, and the peer then leaves the bus as at the end of a session, but that its client is told so. It watches
  -- the bus from then on, if there is memory for that.
  abbrev pub Watches : (M → OutboxId) → Request → PeerState M → Result (Unit {0}) AnswerError → PeerState M → Type 0
  Watches outbox_of request v result w = (answered : Result (Unit {0}) AnswerError) × (mid : PeerState M) × Replies request Nothing v answered mid × GoesUnderOnce outbox_of answered mid result w

  -- or the call is refused
  abbrev pub BecomesMonitor : (M → OutboxId) → Request → PeerState M → Result (Unit {0}) AnswerError → PeerState M → Type 0
  BecomesMonitor outbox_of request v result w = ((why : Refused) × IsRefused request why v result w) ⊎ Watches outbox_of request v result w
