-- Inner: that a pass's seats and the turns under the lock are at the outboxes of the connections whose numbers they have.
use Rattle.std.specs.Prelude.{◌≡◌, ℕ, Bool, true, false, List, Some, IsSomeAnd, option_map}
use Rattle.outbox.specs.Seated.{OutboxId}
use Rattle.program_table.specs.declared.command.Command.{Command}
use Rattle.program_table.specs.declared.command.Command.TheVariants.{Connect, Close}
use Rattle.program_table.specs.Connections.{mailbox_of}
use Rattle.program_table.specs.History.{after}
use Rattle.routing.specs.SenderView.{RecipientSeatView}
use Rattle.routing.specs.RecipientSeats.{outbox_at}
use Rattle.routing.specs.Turns.{TurnView, queue_at}
use Rattle.passes.specs.Mailboxes.{mailbox_given}

module _ {M : Type 0} where
  -- the history gave the connection of this number a mailbox of this outbox
  abbrev pub IsGiven : (M → OutboxId) → List (Command M) → ℕ → OutboxId → Type 0
  IsGiven outbox_of history n outbox = IsSomeAnd (mailbox_given history n) (λ m. outbox_of m ≡ outbox)

  -- each seat is at the outbox that what was seen gave the connection
  abbrev pub AreTheirs : (M → OutboxId) → List (Command M) → List RecipientSeatView → Type 0
  AreTheirs outbox_of seen recipient_seats = (n : ℕ) (outbox : OutboxId) → outbox_at n recipient_seats ≡ Some outbox → IsGiven outbox_of seen n outbox

  -- the turns are those of the outboxes of the connections that are there, and there is no other
  abbrev pub HaveTurns : (M → OutboxId) → List (Command M) → List TurnView → Type 0
  HaveTurns outbox_of history turns = (n : ℕ) → queue_at n turns ≡ option_map (λ (m : M). (outbox_of m).queue) (mailbox_of n (after history).connections)

  -- the command makes no connection, and closes none
  abbrev pub keeps_connections : Command M → Bool
  keeps_connections (Connect m) = false
  keeps_connections (Close n) = false
  keeps_connections _ = true
