-- Which recipient_seats a sender has, what their seats know, and what a call of the sender changes (own).
use Rattle.std.specs.Prelude.{ℕ, ◌≡◌, ◌⊎◌, ◌≤◌, ◌+◌, ◌++◌, ◌==◌, ◌&&◌, Bool, true, false, not, cond, Option, Some, None, IsSome, IfSome, List, [], ◌∷◌, find, map}
use Rattle.std.specs.List.{list_any}
use Rattle.outbox.specs.Items.{Item}
use Rattle.outbox.specs.Counts.{Put, AreOf, counts_of, last_of}
use Rattle.outbox.specs.Seated.{OutboxId}
use Rattle.routing.specs.declared.sender.Sent.{Sent}
use Rattle.routing.specs.declared.sender.Sent.TheVariants as sent
use Rattle.routing.specs.SenderView.{RecipientView, RecipientSeatView, SenderView}

abbrev pub number_of : RecipientView → ℕ
number_of r = r.number

abbrev pub is_for : ℕ → RecipientSeatView → Bool
is_for n s = s.recipient == n

-- the recipient_seat at the outbox of the recipient with this number
abbrev pub seat_at : ℕ → List RecipientSeatView → Option RecipientSeatView
seat_at n recipient_seats = find (is_for n) recipient_seats

-- there is a recipient_seat at the outbox of the recipient with this number
abbrev pub HasSeat : ℕ → List RecipientSeatView → Type 0
HasSeat n recipient_seats = IsSome (seat_at n recipient_seats)

-- each of these recipients has a recipient_seat
abbrev pub AllHave : List ℕ → List RecipientSeatView → Type 0
AllHave [] recipient_seats = Unit {0}
AllHave (n ∷ ns) recipient_seats = HasSeat n recipient_seats × AllHave ns recipient_seats

abbrev pub put_in : Option RecipientSeatView → List Item
put_in None = []
put_in (Some s) = s.seat.view.put

abbrev pub taken_in : Option RecipientSeatView → List Put
taken_in None = []
taken_in (Some s) = s.seat.view.taken

abbrev pub outbox_id : Option RecipientSeatView → Option OutboxId
outbox_id None = None
outbox_id (Some s) = Some s.outbox

abbrev pub knows_shut : Option RecipientSeatView → Bool
knows_shut None = false
knows_shut (Some s) = s.seat.knows_shut

abbrev pub waits_in : Option RecipientSeatView → Bool
waits_in None = false
waits_in (Some s) = s.is_waiting

-- what the seat at this recipient's outbox has put, in order: nothing if there is no seat
abbrev pub puts_at : ℕ → List RecipientSeatView → List Item
puts_at n recipient_seats = put_in (seat_at n recipient_seats)

-- what it has taken
abbrev pub takes_at : ℕ → List RecipientSeatView → List Put
takes_at n recipient_seats = taken_in (seat_at n recipient_seats)

-- the outbox at which the seat is
abbrev pub outbox_at : ℕ → List RecipientSeatView → Option OutboxId
outbox_at n recipient_seats = outbox_id (seat_at n recipient_seats)

-- whether the seat at this recipient's outbox knows that the outbox is shut
abbrev pub shut_at : ℕ → List RecipientSeatView → Bool
shut_at n recipient_seats = knows_shut (seat_at n recipient_seats)

-- whether what was put at this recipient's outbox waits to be written out
abbrev pub waits_at : ℕ → List RecipientSeatView → Bool
waits_at n recipient_seats = waits_in (seat_at n recipient_seats)

-- the outbox is written out
abbrev pub written : RecipientSeatView → RecipientSeatView
written s = record s { is_waiting = false }

-- each outbox is
abbrev pub all_written : List RecipientSeatView → List RecipientSeatView
all_written recipient_seats = map written recipient_seats

-- the seat has put broadcasts of this origin alone, and the count of the last is no greater
abbrev pub Fits : ℕ → ℕ → Option RecipientSeatView → Type 0
Fits origin count recipient_seat = IfSome recipient_seat (λ s. AreOf origin s.seat.view.put × (last_of 0 (counts_of s.seat.view.put) ≤ count))

abbrev pub AllFit : ℕ → ℕ → List RecipientSeatView → Type 0
AllFit origin count recipient_seats = (n : ℕ) → Fits origin count (seat_at n recipient_seats)

abbrev pub is_in : ℕ → List ℕ → Bool
is_in n xs = list_any (λ x. x == n) xs

-- whether the broadcast was put at this recipient's outbox
abbrev pub is_put : ℕ → List ℕ → List ℕ → Bool
is_put n recipients refused = is_in n recipients && not (is_in n refused)

-- each number is above the one before it, and the first is at least n
abbrev pub RisesFrom : ℕ → List ℕ → Type 0
RisesFrom n [] = Unit {0}
RisesFrom n (x ∷ xs) = (n ≤ x) × RisesFrom (x + 1) xs

-- the recipient with this number has this outbox
abbrev pub Lists : List RecipientView → ℕ → OutboxId → Type 0
Lists [] n outbox = ⊥
Lists (r ∷ rs) n outbox = ((r.number ≡ n) × (r.outbox ≡ outbox)) ⊎ Lists rs n outbox

-- What calls of a sender keep: each seat stays at its outbox, a new one is at a newcomer's, what is known to be shut
-- stays so, what waits to be written out still waits, and nothing is taken
pub record Keeps (newcomers : List RecipientView) (old new : SenderView) : Type 0 where
  pub origin_is : new.origin ≡ old.origin
  pub stay : (n : ℕ) (outbox : OutboxId) → outbox_at n old.recipient_seats ≡ Some outbox → outbox_at n new.recipient_seats ≡ Some outbox
  pub theirs : (n : ℕ) (outbox : OutboxId) → outbox_at n new.recipient_seats ≡ Some outbox → (outbox_at n old.recipient_seats ≡ Some outbox) ⊎ Lists newcomers n outbox
  pub shut : (n : ℕ) → shut_at n old.recipient_seats ≡ true → shut_at n new.recipient_seats ≡ true
  pub waits : (n : ℕ) → waits_at n old.recipient_seats ≡ true → waits_at n new.recipient_seats ≡ true
  pub takes : (n : ℕ) → takes_at n new.recipient_seats ≡ takes_at n old.recipient_seats

-- One broadcast more, with these bytes, at this place if at any. At a recipient that isn't listed just that item was put; at a listed one and at
-- every other outbox nothing was. A listed one is a recipient whose outbox is shut, and if the seat knew that before,
-- the recipient is listed. Each recipient's outbox waits to be written out, a listed one's too
pub record Routed (place : Option ℕ) (bytes recipients refused : List ℕ) (old new : SenderView) : Type 0 where
  pub count_is : new.count ≡ old.count + 1
  pub item : Item
  pub bytes_are : item.bytes ≡ bytes
  pub mark_is : item.mark ≡ Some (new.origin, new.count)
  pub place_is : item.place ≡ place
  pub puts : (n : ℕ) → puts_at n new.recipient_seats ≡ puts_at n old.recipient_seats ++ cond (is_put n recipients refused) (item ∷ []) []
  pub rising : RisesFrom 0 refused
  pub listed : (n : ℕ) → is_in n refused ≡ true → (is_in n recipients ≡ true) × (shut_at n new.recipient_seats ≡ true)
  pub again : (n : ℕ) → is_in n recipients ≡ true → shut_at n old.recipient_seats ≡ true → is_in n refused ≡ true
  pub waits : (n : ℕ) → is_in n recipients ≡ true → waits_at n new.recipient_seats ≡ true

abbrev pub is_sent : Sent → Bool
is_sent sent.Put = true
is_sent sent.Full = false

-- A message that isn't a broadcast, with these bytes, at this place if at any, was put at this recipient's outbox, or nowhere, and nothing else
-- was put. The outbox waits to be written out. No count is used
pub record SentTo (place : Option ℕ) (recipient : ℕ) (bytes : List ℕ) (put : Bool) (old new : SenderView) : Type 0 where
  pub count_is : new.count ≡ old.count
  pub item : Item
  pub bytes_are : item.bytes ≡ bytes
  pub mark_is : item.mark ≡ None
  pub place_is : item.place ≡ place
  pub puts : (n : ℕ) → puts_at n new.recipient_seats ≡ puts_at n old.recipient_seats ++ cond ((recipient == n) && put) (item ∷ []) []
  pub waits : waits_at recipient new.recipient_seats ≡ true

-- Nothing was put, and no count is used
pub record Unrouted (old new : SenderView) : Type 0 where
  pub count_is : new.count ≡ old.count
  pub puts : (n : ℕ) → puts_at n new.recipient_seats ≡ puts_at n old.recipient_seats
