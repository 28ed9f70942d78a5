-- The turns of the outboxes of connections, by which what bears a place is put there (own).
use Rattle.std.specs.Prelude.{ℕ, ◌≡◌, ◌≤◌, ◌==◌, Bool, true, Option, Some, IfSome, List, find, option_map}
use Rattle.std.specs.Global.{Global}
use Rattle.crossbeam_queue.specs.SegTies.{SegId}
use Rattle.routing.specs.SenderView.{RecipientSeatView}
use Rattle.routing.specs.RecipientSeats.{seat_at, is_in}

-- a connection's number, its outbox's queue, and the last place that anybody has put there, 0 before the first
pub record TurnView : Type 0 where
  pub number : ℕ
  pub queue : SegId Global
  pub last : ℕ

-- the place at which things are put now, the turns, and whether there is room for one more
pub record TurnsView : Type 0 where
  pub latest : ℕ
  pub turns : List TurnView
  pub has_room : Bool

abbrev pub is_turn_of : ℕ → TurnView → Bool
is_turn_of n t = t.number == n

-- the turn of the outbox of the connection with this number
abbrev pub turn_at : ℕ → List TurnView → Option TurnView
turn_at n turns = find (is_turn_of n) turns

-- the queue of that outbox
abbrev pub queue_at : ℕ → List TurnView → Option (SegId Global)
queue_at n turns = option_map (λ (t : TurnView). t.queue) (turn_at n turns)

-- nothing was put at a later place
abbrev pub AllBefore : ℕ → List TurnView → Type 0
AllBefore latest turns = (n : ℕ) → IfSome (turn_at n turns) (λ t. t.last ≤ latest)

-- the turn of the seat's outbox is there
abbrev pub HasTurn : ℕ → List RecipientSeatView → TurnsView → Type 0
HasTurn n recipient_seats turns = IfSome (seat_at n recipient_seats) (λ s. queue_at n turns.turns ≡ Some s.outbox.queue)

-- a message at this place, if at any, may be put at the recipient's outbox: the place is that at which things are put now, and the
-- outbox's turn is there
abbrev pub StandsAt : Option ℕ → ℕ → List RecipientSeatView → TurnsView → Type 0
StandsAt place n recipient_seats turns = IfSome place (λ p. (p ≡ turns.latest) × HasTurn n recipient_seats turns)

-- the same of the outboxes of these recipients
abbrev pub MayStand : Option ℕ → List ℕ → List RecipientSeatView → TurnsView → Type 0
MayStand place recipients recipient_seats turns = (n : ℕ) → is_in n recipients ≡ true → StandsAt place n recipient_seats turns

-- the turns are those of the same outboxes
pub record KeepsTurns (old new : TurnsView) : Type 0 where
  pub latest : new.latest ≡ old.latest
  pub queues : (n : ℕ) → queue_at n new.turns ≡ queue_at n old.turns
