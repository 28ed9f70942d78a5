-- Inner: what a pass's sender keeps and has put, of the connections that are there in a state.
use Rattle.std.specs.Prelude.{◌≡◌, ◌⊎◌, ℕ, true, List, Some}
use Rattle.outbox.specs.Seated.{OutboxId}
use Rattle.program_table.specs.Connections.{is_connected}
use Rattle.program_table.specs.State.{State}
use Rattle.routing.specs.SenderView.{SenderView}
use Rattle.routing.specs.RecipientSeats.{is_in, puts_at, outbox_at, shut_at, waits_at}
use Rattle.passes.specs.Routes.{IsOutboxOf}

module _ {M : Type 0} where
  -- of the connections that are there, each seat stays at its outbox, what is known to be shut stays so, and what waits to be
  -- written out still waits; a new seat is at the outbox of such a connection
  pub record KeepsThere (outbox_of : M → OutboxId) (s : State M) (old new : SenderView) : Type 0 where
    pub origin_is : new.origin ≡ old.origin
    pub stay : (n : ℕ) (outbox : OutboxId) → is_connected n s.connections ≡ true → outbox_at n old.recipient_seats ≡ Some outbox → outbox_at n new.recipient_seats ≡ Some outbox
    pub theirs : (n : ℕ) (outbox : OutboxId) → outbox_at n new.recipient_seats ≡ Some outbox → (outbox_at n old.recipient_seats ≡ Some outbox) ⊎ IsOutboxOf outbox_of s n outbox
    pub shut : (n : ℕ) → is_connected n s.connections ≡ true → shut_at n old.recipient_seats ≡ true → shut_at n new.recipient_seats ≡ true
    pub waits : (n : ℕ) → is_connected n s.connections ≡ true → waits_at n old.recipient_seats ≡ true → waits_at n new.recipient_seats ≡ true

  -- nothing was put at the outboxes of those that are there, and no count is used
  pub record NothingPut (s : State M) (old new : SenderView) : Type 0 where
    pub count_is : new.count ≡ old.count
    pub puts : (n : ℕ) → is_connected n s.connections ≡ true → puts_at n new.recipient_seats ≡ puts_at n old.recipient_seats

-- what is known to be shut at these recipients stays so
abbrev pub KeepsShut : List ℕ → SenderView → SenderView → Type 0
KeepsShut recipients old new = (n : ℕ) → is_in n recipients ≡ true → shut_at n old.recipient_seats ≡ true → shut_at n new.recipient_seats ≡ true
