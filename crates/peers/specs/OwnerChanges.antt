-- How a change of a name's owner is announced and made (D-Bus Specification, "Message Bus Messages": NameOwnerChanged).
use Rattle.std.specs.Prelude.{◌≡◌, ◌⊎◌, false, Option, None, IfSome, Result, Ok, Err}
use Rattle.outbox.specs.Seated.{OutboxId}
use Rattle.owners.specs.declared.answer.Change.{Change}
use Rattle.router.specs.BusError.{BusError}
use Rattle.router.specs.Calls.{Answers}
use Rattle.router.specs.Command.{Command}
use Rattle.router.specs.Does.{reply_to}
use Rattle.router.specs.History.{after}
use Rattle.router.specs.NameCall.{NameCall}
use Rattle.router.specs.NameCalls.{change_in, command_of}
use Rattle.router.specs.Passes.{PassState}
use Rattle.router.specs.Publication.{Publication}
use Rattle.router.specs.Reply.{Reply}
use Rattle.peers.specs.Announcements.{Announces, AnnouncesAny}
use Rattle.peers.specs.Passing.{HasSeenMore, with_pass}
use Rattle.peers.specs.PeerState.{PeerState}
use Rattle.peers.specs.declared.error.AnswerError.{AnswerError}

module _ {M : Type 0} where
  -- The change is the one that the command makes. If the command is refused, it may also be none.
  abbrev pub IsChangeOf : Option Change → Publication M → Command M → Result Reply BusError → Type 0
  IsChangeOf change before command (Ok reply) = change ≡ change_in reply
  IsChangeOf change before command (Err error) = (change ≡ None) ⊎ (change ≡ change_in (reply_to (after before.history) command))

  -- A change was announced to those who hear of it in what is published, and then the call's command was published, and nothing
  -- in between.
  abbrev pub ChangesAhead : (M → OutboxId) → NameCall → Change → PeerState M → Publication M → Result Reply BusError → Result (Unit {0}) AnswerError → PeerState M → Publication M → Type 0
  ChangesAhead outbox_of call change v before asked announced w next =
      (mid : PeerState M) × Announces outbox_of before.history change v announced mid × Answers false mid.pass before (command_of mid.pass.connection call) asked w.pass next × (w ≡ with_pass mid w.pass)

  -- The call was made after what is published. The change that it makes, if any, was announced first, to those who hear of it in
  -- just that state.
  abbrev pub ChangesOwner : (M → OutboxId) → NameCall → PeerState M → Publication M → Result Reply BusError → Result (Unit {0}) AnswerError → PeerState M → Publication M → Type 0
  ChangesOwner outbox_of call v before asked announced w next =
      (seen : PassState M) × (change : Option Change) × (mid : PeerState M)
      × HasSeenMore v.pass seen
      × IfSome change (λ _. seen.seen ≡ before.history)
      × IsChangeOf change before (command_of v.pass.connection call) asked
      × AnnouncesAny outbox_of before.history change (with_pass v seen) announced mid
      × Answers false mid.pass before (command_of mid.pass.connection call) asked w.pass next
      × (w ≡ with_pass mid w.pass)
