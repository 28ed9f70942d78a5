-- By whose events it is held what a sender's seats have put.
use Rattle.std.proofs.Common.{ℕ, ◌≡◌, ◌≤◌, ◌+◌, ◌==◌, ◌&&◌, not, Bool, true, false, cond, List, [], ◌∷◌, ◌++◌, filter, refl, sym, ap, ◌∙◌, subst, arith, tests, nat_lt, Option, Some, None, IfSome, option_map}
use Rattle.outbox.specs.Items.{Item, Hold}
use Rattle.outbox.specs.declared.rule.SeatView.{SeatView}
use Rattle.outbox.specs.Released.{Events, hold_of, next_event, all_released, max_event}
use Rattle.outbox.specs.Views.{after_put}
use Rattle.routing.specs.SenderView.{RecipientView, RecipientSeatView}
use Rattle.routing.specs.RecipientSeats.{seat_at, written, all_written, is_in}
use Rattle.routing.specs.Settled.{IsOwn, AreOwn, HoldsOwn, GoesOn, last_event}
use Rattle.routing.specs.Puts.{TakenAt, SeatsTaken, PutAt, RoutedAt, PutTo}
use Rattle.routing.proofs.Puts.{put_once}
use Rattle.routing.proofs.Routes.{kept_at, written_at}

-- what is put in an event is held until it
pub begun_own : (e : Events) → IsOwn (Some record e { is_open = true; is_putting = true }) (hold_of e)
begun_own e = pick (nat_lt e.released max_event) refl
  where
    pick : (b : Bool) → nat_lt e.released max_event ≡ b → IsOwn (Some record e { is_open = true; is_putting = true }) (cond b (Some record { word = e.word; event = e.released + 1 }) None)
    pick false is = tt
    pick true is = let next : next_event e.released ≡ e.released + 1 = ap (λ b. cond b (e.released + 1) e.released) is in (refl, omega (arith, next))

pub begun_on : (e : Events) → GoesOn (Some e) (Some record e { is_open = true; is_putting = true })
begun_on e = (refl, pick e.is_open)
  where
    next : e.released ≤ next_event e.released
    next = grind (arith, tests)

    pick : (b : Bool) → cond b (next_event e.released) e.released ≤ next_event e.released
    pick true = omega arith
    pick false = next

pub released_on : (e : Events) → GoesOn (Some e) (Some (all_released e))
released_on e = pick e.is_open refl
  where
    pick : (b : Bool) → e.is_open ≡ b → GoesOn (Some e) (Some (cond b (record e { released = next_event e.released; is_open = false }) e))
    pick true is = let last : last_event e ≡ next_event e.released = ap (λ b. cond b (next_event e.released) e.released) is in (refl, omega (arith, last))
    pick false is = (refl, omega arith)

pub on_same : (o : Option Events) → GoesOn o o
on_same None = tt
on_same (Some e) = (refl, omega arith)

pub on_and_on : (a b c : Option Events) → GoesOn a b → GoesOn b c → GoesOn a c
on_and_on None b c h k = tt
on_and_on (Some a) None c h k = absurd h
on_and_on (Some a) (Some b) None h k = absurd k
on_and_on (Some a) (Some b) (Some c) h k = let up = h.1 in let more = k.1 in (k.0 ∙ h.0, omega (arith, up, more))

pub own_on : (a b : Option Events) (hold : Option Hold) → GoesOn a b → IsOwn a hold → IsOwn b hold
own_on a b None on own = tt
own_on None b (Some h) on own = absurd own
own_on (Some a) None (Some h) on own = absurd on
own_on (Some a) (Some b) (Some h) on own = let up = on.1 in let le = own.1 in (own.0 ∙ sym on.0, omega (arith, up, le))

are_on : (a b : Option Events) (items : List Item) → GoesOn a b → AreOwn a items → AreOwn b items
are_on a b [] on own = tt
are_on a b (x ∷ xs) on own = (own_on a b x.hold on own.0, are_on a b xs on own.1)

are_snoc : (e : Option Events) (items : List Item) (x : Item) → AreOwn e items → IsOwn e x.hold → AreOwn e (items ++ x ∷ [])
are_snoc e [] x own h = (h, tt)
are_snoc e (y ∷ ys) x own h = (own.0, are_snoc e ys x own.1 h)

abbrev Own : Option Events → Option RecipientSeatView → Type 0
Own e o = IfSome o (λ s. AreOwn e s.seat.view.put)

seat_on : (a b : Option Events) (o : Option RecipientSeatView) → GoesOn a b → Own a o → Own b o
seat_on a b None on own = tt
seat_on a b (Some s) on own = are_on a b s.seat.view.put on own

pub all_on : (w : Bool) (a b : Option Events) (recipient_seats : List RecipientSeatView) → GoesOn a b → HoldsOwn w a recipient_seats → HoldsOwn w b recipient_seats
all_on w a b recipient_seats on own e n = seat_on a b (seat_at n recipient_seats) on (own e n)

put_own : (e : Option Events) (item : Item) (put : Bool) (v w : SeatView) → w ≡ cond put (after_put v item) v → IsOwn e item.hold → AreOwn e v.put → AreOwn e w.put
put_own e item true v w is h own = let P : SeatView → Type 0 = λ u. AreOwn e u.put in subst P (sym is) (are_snoc e v.put item own h)
put_own e item false v w is h own = let P : SeatView → Type 0 = λ u. AreOwn e u.put in subst P (sym is) own

routed_at_own : (e : Option Events) (item : Item) (r f : Bool) (o p : Option RecipientSeatView) → RoutedAt item r f o p → IsOwn e item.hold → Own e o → Own e p
routed_at_own e item false f o p routed h own = let P : Option RecipientSeatView → Type 0 = λ x. Own e x in subst P (sym routed.1) own
routed_at_own e item true f o p routed h own =
    let P : Option RecipientSeatView → Type 0 = λ x. Own e x in
    subst P (sym routed.3) (put_own e item (not f) routed.0.seat.view routed.1.seat.view routed.4.view h (subst P routed.2 own))

-- after a broadcast that is held by its events
pub routed_own : (w : Bool) (a b : Option Events) (item : Item) (recipients refused : List ℕ) (old new : List RecipientSeatView) → GoesOn a b → IsOwn b item.hold → PutTo item recipients refused old new → HoldsOwn w a old → HoldsOwn w b new
routed_own w a b item recipients refused old new on h put own e n =
    routed_at_own b item (is_in n recipients) (is_in n refused) (seat_at n old) (seat_at n new) (put.each n) h (seat_on a b (seat_at n old) on (own e n))

-- after a message that is no broadcast
pub sent_own : (w : Bool) (a b : Option Events) (m : ℕ) (item : Item) (put : Bool) (old new : List RecipientSeatView) → GoesOn a b → IsOwn b item.hold → PutAt m item put old new → HoldsOwn w a old → HoldsOwn w b new
sent_own w a b m item put old new on h now own k n =
    routed_at_own b item (m == n) ((m == n) && not put) (seat_at n old) (seat_at n new) (put_once item m put old new now n) h (seat_on a b (seat_at n old) on (own k n))

taken_at_own : (e : Option Events) (recipients : List RecipientView) (n : ℕ) (o p : Option RecipientSeatView) → TakenAt recipients n o p → Own e o → Own e p
taken_at_own e recipients n (Some s) p h own = let P : Option RecipientSeatView → Type 0 = λ x. Own e x in subst P (sym h) own
taken_at_own e recipients n None None h own = tt
taken_at_own e recipients n None (Some t) h own = let P : SeatView → Type 0 = λ v. AreOwn e v.put in subst P (sym h.1) tt

pub taken_own : (w : Bool) (e : Option Events) (recipients : List RecipientView) (old new : List RecipientSeatView) → SeatsTaken recipients old new → HoldsOwn w e old → HoldsOwn w e new
taken_own w e recipients old new taken own k n = taken_at_own e recipients n (seat_at n old) (seat_at n new) (taken n) (own k n)

pub kept_own : (w : Bool) (e : Option Events) (recipients : List ℕ) (recipient_seats : List RecipientSeatView) → HoldsOwn w e recipient_seats → HoldsOwn w e (filter (λ s. is_in s.recipient recipients) recipient_seats)
kept_own w e recipients recipient_seats own k n =
    let P : Option RecipientSeatView → Type 0 = λ x. Own e x in
    subst P (sym (kept_at recipients n recipient_seats)) (pick (is_in n recipients))
  where
    pick : (b : Bool) → Own e (cond b (seat_at n recipient_seats) None)
    pick true = own k n
    pick false = tt

pub written_own : (w : Bool) (e : Option Events) (recipient_seats : List RecipientSeatView) → HoldsOwn w e recipient_seats → HoldsOwn w e (all_written recipient_seats)
written_own w e recipient_seats own k n =
    let P : Option RecipientSeatView → Type 0 = λ x. Own e x in
    subst P (sym (written_at n recipient_seats)) (still (seat_at n recipient_seats) (own k n))
  where
    still : (o : Option RecipientSeatView) → Own e o → Own e (option_map written o)
    still None h = tt
    still (Some s) h = h
