-- How a client joins the bus, and what Hello is answered (D-Bus Specification, "Message Bus Messages": Hello).
use Rattle.std.specs.Prelude.{◌≡◌, ◌⊎◌, true, List, Result, Ok, Err}
use Rattle.std.specs.Result.{result_and}
use Rattle.outbox.specs.Seated.{OutboxId}
use Rattle.bus_messages.specs.declared.error_name.ErrorName.TheVariants.{NoMemory}
use Rattle.router.specs.BusError.{BusError}
use Rattle.router.specs.Calls.{Connects}
use Rattle.router.specs.Command.{Command}
use Rattle.router.specs.Passes.{PassState}
use Rattle.router.specs.Publication.{Publication}
use Rattle.router.specs.Reply.{Reply}
use Rattle.router.specs.Standing.TheVariants as standings
use Rattle.peers.specs.declared.error.AnswerError.{AnswerError}
use Rattle.peers.specs.declared.refused.Refused.{Refused}
use Rattle.peers.specs.declared.refused.Refused.TheVariants.{Error}
use Rattle.peers.specs.declared.request.Request.{Request}
use Rattle.peers.specs.Announcements.{AnnouncesArrival}
use Rattle.peers.specs.Answers.{IsPutAt}
use Rattle.peers.specs.PeerState.{OwnState, PeerState, name_of, without_turn}
use Rattle.peers.specs.Queries.{RepliesTextBy}
use Rattle.peers.specs.Refusals.{refusal_of}

-- the turn of the client's outbox, which was there, was given to the bus
abbrev pub GivesTurn : OwnState → OwnState → Type 0
GivesTurn own left = (own.has_turn ≡ true) × (left ≡ without_turn own)

module _ {M : Type 0} where
  -- The pass is connected: the published history gains just its Connect, for a mailbox of the client's own outbox, whose turn the bus
  -- is given. Or the bus refuses, as where no more may be connected; or memory for the mailbox was refused, or the turn isn't there
  -- any more, and nothing is done. Then nothing is published.
  abbrev pub Joins : (M → OutboxId) → OwnState → PassState M → Publication M → Result (Unit {0}) Refused → OwnState → PassState M → Publication M → Type 0
  Joins outbox_of own v before (Ok _) left w next =
      GivesTurn own left × (mailbox : M) × (reply : Reply) × (outbox_of mailbox ≡ own.outbox) × Connects v before mailbox (Ok reply) w next
  Joins outbox_of own v before (Err why) left w next =
      ((why ≡ Error NoMemory) × (left ≡ own) × (w ≡ v) × (next ≡ before))
      ⊎ (GivesTurn own left × (mailbox : M) × (error : BusError) × (outbox_of mailbox ≡ own.outbox) × Connects v before mailbox (Err error) w next × (why ≡ refusal_of error))

  -- After this history, whose last command has made its connection, the client is answered its name, and then the name is
  -- announced, all at the place of that command. The result is the first error of these.
  abbrev pub Registers : (M → OutboxId) → List (Command M) → Request → PeerState M → Result (Unit {0}) AnswerError → PeerState M → Type 0
  Registers outbox_of history request v result w =
      (mid : PeerState M) × (answered announced : Result (Unit {0}) AnswerError)
      × RepliesTextBy (IsPutAt standings.Last outbox_of history) request (name_of v) v answered mid
      × AnnouncesArrival outbox_of history mid announced w × (result ≡ result_and answered announced)
