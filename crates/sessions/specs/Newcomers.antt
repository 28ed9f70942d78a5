-- A client that has just joined the bus (own).
use Rattle.std.specs.Prelude.{◌≡◌, ℕ, true, false, List, [], ◌∷◌, ◌++◌, Result, Ok}
use Rattle.message_view.specs.Message.{Message}
use Rattle.message_view.specs.Valid.{Valid}
use Rattle.outbox.specs.Seated.{OutboxId}
use Rattle.router.specs.Calls.{Once, Connects}
use Rattle.router.specs.Command.{Command}
use Rattle.router.specs.Command.TheVariants.{Connect}
use Rattle.router.specs.Passes.{PassState, new_pass}
use Rattle.router.specs.Publication.{Publication}
use Rattle.router.specs.Reply.{Reply}
use Rattle.peers.specs.Arrival.{Registers}
use Rattle.peers.specs.Holdings.{nothing_held}
use Rattle.peers.specs.Passing.{IsRequestOf}
use Rattle.peers.specs.PeerState.{PeerState}
use Rattle.peers.specs.declared.error.AnswerError.{AnswerError}
use Rattle.peers.specs.declared.request.Request.{Request}
use Rattle.sessions.specs.Hello.{is_hello}

module _ {M : Type 0} where
  -- a pass that was connected, with a mailbox of this outbox, and did nothing else
  abbrev pub HasJoined : (M → OutboxId) → OutboxId → PassState M → Type 0
  HasJoined outbox_of outbox w = (seen : List (Command M)) × (mailbox : M) × (reply : Reply) × (outbox_of mailbox ≡ outbox) × Once (λ before next. Connects (new_pass seen) before mailbox (Ok reply) w next)

  -- just the Connect of a mailbox of this outbox was published
  abbrev pub HasConnected : (M → OutboxId) → OutboxId → Publication M → Publication M → Type 0
  HasConnected outbox_of outbox before next = (mailbox : M) × (outbox_of mailbox ≡ outbox) × (next.history ≡ before.history ++ Connect mailbox ∷ [])

  -- a pass that was never connected, and by which nothing was published
  abbrev pub HasNotJoined : PassState M → Type 0
  HasNotJoined w = (w.connection ≡ 0) × (w.took ≡ 0)

  -- a peer of such a pass, whose own outbox it is, the turn of which was given to the bus, for which the bus has made no message yet,
  -- and which has taken nothing of it
  abbrev pub IsNewcomer : (M → OutboxId) → PeerState M → Type 0
  IsNewcomer outbox_of v = HasJoined outbox_of v.own.outbox v.pass × (v.own.has_turn ≡ false) × (v.serial ≡ 1) × (v.holdings ≡ nothing_held)

  -- A newcomer with this outbox, whose Hello of these bytes was answered, and whose name was announced, after the history that its
  -- pass has seen, of which its Connect is the last command.
  abbrev pub IsRegistered : (M → OutboxId) → List ℕ → OutboxId → Result (Unit {0}) AnswerError → PeerState M → Type 0
  IsRegistered outbox_of bytes outbox registered w =
      (v : PeerState M) × (request : Request) × IsNewcomer outbox_of v × (v.own.outbox ≡ outbox) × ((m : Message) → Valid bytes m → (is_hello m ≡ true) × IsRequestOf m request) × Registers outbox_of v.pass.seen request v registered w
