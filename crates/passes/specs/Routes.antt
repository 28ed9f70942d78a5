-- Broadcasts of a pass (own).
use Rattle.std.specs.Prelude.{◌≡◌, ◌⊎◌, ◌+◌, ◌++◌, ℕ, Bool, true, cond, List, [], ◌∷◌, length, Option, Some}
use mathlib.Core.List.{IsPrefix}
use Rattle.message_view.specs.Message.{Message}
use Rattle.message_view.specs.Valid.{Valid}
use Rattle.outbox.specs.Items.{Item}
use Rattle.outbox.specs.Seated.{OutboxId}
use Rattle.program_table.specs.Connections.{is_connected, mailbox_of}
use Rattle.program_table.specs.History.{after}
use Rattle.program_table.specs.Recipients.{AreRecipients}
use Rattle.program_table.specs.State.{State}
use Rattle.routing.specs.RecipientSeats.{RisesFrom, puts_at, outbox_at, shut_at, waits_at, all_written, is_in, is_put, AllFit}
use Rattle.passes.specs.declared.error.BusError.{BusError}
use Rattle.passes.specs.declared.error.BusError.TheVariants as errors
use Rattle.passes.specs.declared.reading.Source.{Source}
use Rattle.passes.specs.declared.standing.Standing.{Standing}
use Rattle.passes.specs.Passes.{PassState, sender_of}
use Rattle.passes.specs.Standings.{place_at}

-- the greatest count of a broadcast
abbrev pub max_count : ℕ
max_count = 18446744073709551615

module _ {M : Type 0} where
  -- the outbox is that of the connection's mailbox
  abbrev pub IsOutboxOf : (M → OutboxId) → State M → ℕ → OutboxId → Type 0
  IsOutboxOf outbox_of s n outbox = (m : M) × (mailbox_of n s.connections ≡ Some m) × (outbox_of m ≡ outbox)

  -- the connection is there in what the pass has seen
  abbrev pub is_there : ℕ → PassState M → Bool
  is_there n w = is_connected n (after w.seen).connections

  -- What a pass keeps where it sends: of the connections that are there, each seat stays at its outbox, and what is
  -- known to be shut stays so, and what waits to be written out still waits. A new seat is at the outbox of a connection
  -- that is there. Seats name the pass's connection as the origin of their broadcasts, and none has a count above the pass's.
  pub record KeepsSeats (outbox_of : M → OutboxId) (v w : PassState M) : Type 0 where
    pub stay : (n : ℕ) (outbox : OutboxId) → is_there n w ≡ true → outbox_at n v.recipient_seats ≡ Some outbox → outbox_at n w.recipient_seats ≡ Some outbox
    pub theirs : (n : ℕ) (outbox : OutboxId) → outbox_at n w.recipient_seats ≡ Some outbox → (outbox_at n v.recipient_seats ≡ Some outbox) ⊎ IsOutboxOf outbox_of (after w.seen) n outbox
    pub shut : (n : ℕ) → is_there n w ≡ true → shut_at n v.recipient_seats ≡ true → shut_at n w.recipient_seats ≡ true
    pub waits : (n : ℕ) → is_there n w ≡ true → waits_at n v.recipient_seats ≡ true → waits_at n w.recipient_seats ≡ true
    pub fits : AllFit w.connection w.count w.recipient_seats

  -- What it has sent, it has seen: a history that begins with what it had seen.
  pub record Sends (outbox_of : M → OutboxId) (v w : PassState M) : Type 0 where
    pub begins : IsPrefix v.seen w.seen
    pub same : w ≡ record v { seen = w.seen; count = w.count; recipient_seats = w.recipient_seats }
    pub keeps : KeepsSeats outbox_of v w

  -- One item more, with these bytes and this mark, was put to just these connections, of those that are there. It bears the place
  -- at which it stands after what the pass has seen.
  pub record HasPut (standing : Standing) (goes_to : ℕ → Bool) (bytes : List ℕ) (mark : Option (ℕ × ℕ)) (v w : PassState M) : Type 0 where
    pub item : Item
    pub bytes_are : item.bytes ≡ bytes
    pub mark_is : item.mark ≡ mark
    pub place_is : item.place ≡ place_at standing (length w.seen)
    pub puts : (n : ℕ) → is_there n w ≡ true → puts_at n w.recipient_seats ≡ puts_at n v.recipient_seats ++ cond (goes_to n) (item ∷ []) []

  -- One broadcast more of the message of these bytes, to its recipients after what the pass has seen: it was put to each
  -- that didn't refuse it, and nothing was put anywhere else. One that refused is a recipient whose outbox is shut, and if
  -- the seat knew that before, the recipient refused. What was put waits to be written out, and so does the outbox of one that
  -- refused.
  pub record HasRouted (standing : Standing) (outbox_of : M → OutboxId) (source : Source) (bytes : List ℕ) (v : PassState M) (recipients refused : List ℕ) (w : PassState M) : Type 0 where
    pub sends : Sends outbox_of v w
    pub are : (m : Message) → Valid bytes m → AreRecipients (after w.seen) (sender_of source v.connection) m recipients
    pub count_is : w.count ≡ v.count + 1
    pub put : HasPut standing (λ n. is_put n recipients refused) bytes (Some (v.connection, w.count)) v w
    pub rising : RisesFrom 0 refused
    pub listed : (n : ℕ) → is_in n refused ≡ true → (is_in n recipients ≡ true) × (shut_at n w.recipient_seats ≡ true)
    pub again : (n : ℕ) → is_in n recipients ≡ true → shut_at n v.recipient_seats ≡ true → is_in n refused ≡ true
    pub waits : (n : ℕ) → is_in n recipients ≡ true → waits_at n w.recipient_seats ≡ true

  -- one broadcast more, to recipients that the answer doesn't list
  abbrev pub HasRoutedToSome : Standing → (M → OutboxId) → Source → List ℕ → PassState M → List ℕ → PassState M → Type 0
  HasRoutedToSome standing outbox_of source bytes v refused w = (recipients : List ℕ) × HasRouted standing outbox_of source bytes v recipients refused w

  -- nothing was put, and no count is used
  pub record HasNotPut (outbox_of : M → OutboxId) (v w : PassState M) : Type 0 where
    pub sends : Sends outbox_of v w
    pub count_is : w.count ≡ v.count
    pub puts : (n : ℕ) → is_there n w ≡ true → puts_at n w.recipient_seats ≡ puts_at n v.recipient_seats

  -- Nothing was put: if the pass is closed or the bus is gone, the pass is as it was.
  abbrev pub IsUnrouted : (M → OutboxId) → BusError → PassState M → PassState M → Type 0
  IsUnrouted outbox_of error v w =
      ((error ≡ errors.Closed) × (w ≡ v)) ⊎ (((error ≡ errors.NoMemory) ⊎ ((error ≡ errors.Counts) × (v.count ≡ max_count))) × HasNotPut outbox_of v w)

  -- nothing that the pass has put waits to be written out any more
  abbrev pub pass_written : PassState M → PassState M
  pass_written v = record v { recipient_seats = all_written v.recipient_seats }
