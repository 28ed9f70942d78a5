-- Inner: what seats that are taken and puts that are made change, recipient_seat by recipient_seat.
use Rattle.std.specs.Prelude.{ℕ, ◌≡◌, ◌≤◌, ◌+◌, ◌==◌, Bool, true, false, not, cond, Option, Some, None, List, [], ◌∷◌}
use Rattle.outbox.specs.Items.{Item}
use Rattle.outbox.specs.Views.{blank, after_put}
use Rattle.routing.specs.SenderView.{RecipientView, RecipientSeatView, SenderView}
use Rattle.routing.specs.RecipientSeats.{seat_at, is_in, RisesFrom, Lists}
use Rattle.routing.specs.Turns.{TurnView, turn_at}

-- a recipient_seat that was there is as it was; a new one is at a recipient's outbox, and has put nothing
abbrev pub TakenAt : List RecipientView → ℕ → Option RecipientSeatView → Option RecipientSeatView → Type 0
TakenAt recipients n (Some s) new = new ≡ Some s
TakenAt recipients n None None = Unit {0}
TakenAt recipients n None (Some t) = Lists recipients n t.outbox × (t.seat.view ≡ blank) × (t.is_waiting ≡ false)

abbrev pub SeatsTaken : List RecipientView → List RecipientSeatView → List RecipientSeatView → Type 0
SeatsTaken recipients old new = (n : ℕ) → TakenAt recipients n (seat_at n old) (seat_at n new)

-- what a put, or its refusal, makes of a recipient_seat
pub record PutThere (item : Item) (put : Bool) (old new : RecipientSeatView) : Type 0 where
  pub recipient : new.recipient ≡ old.recipient
  pub outbox : new.outbox ≡ old.outbox
  pub view : new.seat.view ≡ cond put (after_put old.seat.view item) old.seat.view
  pub full : put ≡ false → new.seat.knows_shut ≡ true
  pub shut : old.seat.knows_shut ≡ true → (put ≡ false) × (new.seat.knows_shut ≡ true)
  pub waits : new.is_waiting ≡ true

-- the recipient's recipient_seat changes so, and no other
pub record PutAt (recipient : ℕ) (item : Item) (put : Bool) (old new : List RecipientSeatView) : Type 0 where
  pub before : RecipientSeatView
  pub after : RecipientSeatView
  pub was : seat_at recipient old ≡ Some before
  pub change : PutThere item put before after
  pub now : (n : ℕ) → seat_at n new ≡ cond (recipient == n) (Some after) (seat_at n old)

-- at a recipient the broadcast was put or refused; another recipient_seat is as it was
abbrev pub RoutedAt : Item → Bool → Bool → Option RecipientSeatView → Option RecipientSeatView → Type 0
RoutedAt item false refused old new = (refused ≡ false) × (new ≡ old)
RoutedAt item true refused old new = (s : RecipientSeatView) × (t : RecipientSeatView) × (old ≡ Some s) × (new ≡ Some t) × PutThere item (not refused) s t

-- the turn of the outbox of the connection with this number was used for a put at this place, or for its refusal, and no other
pub record TurnUsed (n place : ℕ) (old new : List TurnView) : Type 0 where
  pub before : TurnView
  pub after : TurnView
  pub was : turn_at n old ≡ Some before
  pub queue : after.queue ≡ before.queue
  pub last : after.last ≤ place
  pub now : (m : ℕ) → turn_at m new ≡ cond (n == m) (Some after) (turn_at m old)

-- one above the last number, or n
abbrev pub end_of : ℕ → List ℕ → ℕ
end_of n [] = n
end_of n (x ∷ xs) = end_of (x + 1) xs

-- the broadcast was put to each of these recipients, but to those that refused it
pub record PutTo (item : Item) (recipients refused : List ℕ) (old new : List RecipientSeatView) : Type 0 where
  pub each : (n : ℕ) → RoutedAt item (is_in n recipients) (is_in n refused) (seat_at n old) (seat_at n new)
  pub rising : RisesFrom 0 refused
  pub below : end_of 0 refused ≤ end_of 0 recipients

-- the next broadcast was put to each of these recipients, but to those that refused it, and nothing else changes
pub record RoutedTo (place : Option ℕ) (bytes recipients refused : List ℕ) (old new : SenderView) : Type 0 where
  pub item : Item
  pub bytes_are : item.bytes ≡ bytes
  pub mark_is : item.mark ≡ Some (old.origin, old.count + 1)
  pub place_is : item.place ≡ place
  pub origin_is : new.origin ≡ old.origin
  pub count_is : new.count ≡ old.count + 1
  pub change : PutTo item recipients refused old.recipient_seats new.recipient_seats

-- a message with these bytes that isn't a broadcast, at this place if at any, was put to the recipient or refused, and nothing else changes
pub record PutOnce (place : Option ℕ) (bytes : List ℕ) (recipient : ℕ) (put : Bool) (old new : SenderView) : Type 0 where
  pub item : Item
  pub bytes_are : item.bytes ≡ bytes
  pub mark_is : item.mark ≡ None
  pub place_is : item.place ≡ place
  pub origin_is : new.origin ≡ old.origin
  pub count_is : new.count ≡ old.count
  pub change : PutAt recipient item put old.recipient_seats new.recipient_seats
