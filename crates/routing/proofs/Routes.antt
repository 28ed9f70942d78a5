-- What taken seats and puts leave of a sender's recipient_seats.
use Rattle.std.proofs.Common.{eqb-true, ◌∷◌, ℕ, ◌≡◌, ◌+◌, ◌≤◌, ◌==◌, ◌&&◌, not, Bool, true, false, true≢false, cond, List, [], filter, refl, sym, ap, ◌∙◌, subst, arith, append-nil, ◌++◌, Option, Some, None, IfSome, option_map}
use Rattle.outbox.specs.Items.{Item}
use Rattle.outbox.specs.declared.rule.SeatView.{SeatView}
use Rattle.outbox.specs.Counts.{AreOf, count_of, counts_of, last_of}
use Rattle.outbox.specs.Views.{Follows, after_put}
use Rattle.outbox.proofs.Rising.{counts_append, are_of_snoc, last_snoc}
use Rattle.routing.specs.SenderView.{RecipientView, RecipientSeatView, SenderView}
use Rattle.routing.specs.RecipientSeats.{seat_at, put_in, knows_shut, waits_in, waits_at, written, all_written, Fits, AllFit, is_in, Routed}
use Rattle.routing.specs.Puts.{TakenAt, PutAt, RoutedAt, PutTo, RoutedTo}
use Rattle.routing.proofs.Puts.{put_once}

taken_put : (recipients : List RecipientView) (n : ℕ) (o p : Option RecipientSeatView) → TakenAt recipients n o p → put_in p ≡ put_in o
taken_put recipients n (Some s) p h = ap put_in h
taken_put recipients n None None h = refl
taken_put recipients n None (Some t) h = ap (λ (v : SeatView). v.put) h.1

-- what is put after a put, or after its refusal
view_put : (v w : SeatView) (item : Item) (put : Bool) → w ≡ cond put (after_put v item) v → w.put ≡ v.put ++ cond put (item ∷ []) []
view_put v w item true e = ap (λ (u : SeatView). u.put) e
view_put v w item false e = ap (λ (u : SeatView). u.put) e ∙ sym (append-nil v.put)

routed_put : (item : Item) (r f : Bool) (o p : Option RecipientSeatView) → RoutedAt item r f o p → put_in p ≡ put_in o ++ cond (r && not f) (item ∷ []) []
routed_put item false f o p h = ap put_in h.1 ∙ sym (append-nil (put_in o))
routed_put item true f o p h =
    ap put_in h.3 ∙ view_put h.0.seat.view h.1.seat.view item (not f) h.4.view ∙ ap (λ x. put_in x ++ cond (not f) (item ∷ []) []) (sym h.2)

not_false : (f : Bool) → not f ≡ false → f ≡ true
not_false true e = refl
not_false false e = absurd (true≢false e)

-- who got a put, or refused one, has to be written out
routed_waiting : (item : Item) (r f : Bool) (o p : Option RecipientSeatView) → RoutedAt item r f o p → r ≡ true → waits_in p ≡ true
routed_waiting item false f o p h is = absurd (true≢false (sym is))
routed_waiting item true f o p h is = ap waits_in h.3 ∙ h.4.waits

pub routed_again : (item : Item) (r f : Bool) (o p : Option RecipientSeatView) → RoutedAt item r f o p → r ≡ true → knows_shut o ≡ true → f ≡ true
routed_again item false f o p h is e = absurd (true≢false (sym is))
routed_again item true f o p h is e = not_false f (h.4.shut (ap knows_shut (sym h.2) ∙ e)).0

pub routed_listed : (item : Item) (r f : Bool) (o p : Option RecipientSeatView) → RoutedAt item r f o p → f ≡ true → (r ≡ true) × (knows_shut p ≡ true)
routed_listed item false f o p h is = absurd (true≢false (sym is ∙ h.0))
routed_listed item true f o p h is = (refl, ap knows_shut h.3 ∙ h.4.full (ap not is))

-- the broadcasts of a seat after a put
abbrev FitsBy : ℕ → ℕ → List Item → Type 0
FitsBy origin count items = AreOf origin items × (last_of 0 (counts_of items) ≤ count)

fits_marked : (items : List Item) (origin count : ℕ) (item : Item) → item.mark ≡ Some (origin, count + 1) → AreOf origin items → FitsBy origin (count + 1) (items ++ item ∷ [])
fits_marked items origin count item is named =
    let one : counts_of (item ∷ []) ≡ (count + 1) ∷ [] = ap (λ (m : Option (ℕ × ℕ)). count_of m ++ []) is in
    let last : last_of 0 (counts_of (items ++ item ∷ [])) ≡ count + 1 =
    ap (last_of 0) (counts_append items (item ∷ []) ∙ ap (λ (l : List ℕ). counts_of items ++ l) one) ∙ last_snoc 0 (counts_of items) (count + 1) in
    let P : Option (ℕ × ℕ) → Type 0 = λ m. IfSome m (λ k. k.0 ≡ origin) in
    (are_of_snoc origin items item named (subst P (sym is) refl), omega (arith, last))

fits_plain : (items : List Item) (origin count : ℕ) (item : Item) → item.mark ≡ None → FitsBy origin count items → FitsBy origin count (items ++ item ∷ [])
fits_plain items origin count item is f =
    let none : counts_of (item ∷ []) ≡ [] = ap (λ (m : Option (ℕ × ℕ)). count_of m ++ []) is in
    let last : last_of 0 (counts_of (items ++ item ∷ [])) ≡ last_of 0 (counts_of items) =
    ap (last_of 0) (counts_append items (item ∷ []) ∙ ap (λ (l : List ℕ). counts_of items ++ l) none ∙ append-nil (counts_of items)) in
    let P : Option (ℕ × ℕ) → Type 0 = λ m. IfSome m (λ k. k.0 ≡ origin) in
    let le = f.1 in
    (are_of_snoc origin items item f.0 (subst P (sym is) tt), omega (arith, last, le))

view_fits : (v w : SeatView) (origin count : ℕ) (item : Item) (put : Bool) → item.mark ≡ Some (origin, count + 1) → w ≡ cond put (after_put v item) v → FitsBy origin count v.put → FitsBy origin (count + 1) w.put
view_fits v w origin count item true is e f = let P : SeatView → Type 0 = λ u. FitsBy origin (count + 1) u.put in subst P (sym e) (fits_marked v.put origin count item is f.0)
view_fits v w origin count item false is e f =
    let le = f.1 in let P : SeatView → Type 0 = λ u. FitsBy origin (count + 1) u.put in subst P (sym e) (f.0, omega (arith, le))

plain_fits : (v w : SeatView) (origin count : ℕ) (item : Item) (put : Bool) → item.mark ≡ None → w ≡ cond put (after_put v item) v → FitsBy origin count v.put → FitsBy origin count w.put
plain_fits v w origin count item true is e f = let P : SeatView → Type 0 = λ u. FitsBy origin count u.put in subst P (sym e) (fits_plain v.put origin count item is f)
plain_fits v w origin count item false is e f = let P : SeatView → Type 0 = λ u. FitsBy origin count u.put in subst P (sym e) f

fits_more : (origin count : ℕ) (o : Option RecipientSeatView) → Fits origin count o → Fits origin (count + 1) o
fits_more origin count None f = tt
fits_more origin count (Some s) f = let le = f.1 in (f.0, omega (arith, le))

routed_fits : (origin count : ℕ) (item : Item) (r f : Bool) (o p : Option RecipientSeatView) → item.mark ≡ Some (origin, count + 1) → RoutedAt item r f o p → Fits origin count o → Fits origin (count + 1) p
routed_fits origin count item false f o p is h fits = let P : Option RecipientSeatView → Type 0 = λ x. Fits origin (count + 1) x in subst P (sym h.1) (fits_more origin count o fits)
routed_fits origin count item true f o p is h fits =
    let P : Option RecipientSeatView → Type 0 = λ x. Fits origin (count + 1) x in
    let Q : Option RecipientSeatView → Type 0 = λ x. Fits origin count x in
    subst P (sym h.3) (view_fits h.0.seat.view h.1.seat.view origin count item (not f) is h.4.view (subst Q h.2 fits))

sent_fits : (origin count : ℕ) (item : Item) (r f : Bool) (o p : Option RecipientSeatView) → item.mark ≡ None → RoutedAt item r f o p → Fits origin count o → Fits origin count p
sent_fits origin count item false f o p is h fits = let P : Option RecipientSeatView → Type 0 = λ x. Fits origin count x in subst P (sym h.1) fits
sent_fits origin count item true f o p is h fits =
    let P : Option RecipientSeatView → Type 0 = λ x. Fits origin count x in
    subst P (sym h.3) (plain_fits h.0.seat.view h.1.seat.view origin count item (not f) is h.4.view (subst P h.2 fits))

fits_follows : (origin count : ℕ) (o : Option RecipientSeatView) → Fits origin count o → IfSome o (λ s. Follows s.seat.view.put (Some (origin, count + 1)))
fits_follows origin count None f = tt
fits_follows origin count (Some s) f = let le = f.1 in (f.0, omega (arith, le))

-- so the next broadcast may be put at each
pub all_follow : (origin count : ℕ) (recipient_seats : List RecipientSeatView) → AllFit origin count recipient_seats → (n : ℕ) → IfSome (seat_at n recipient_seats) (λ s. Follows s.seat.view.put (Some (origin, count + 1)))
all_follow origin count recipient_seats fits n = fits_follows origin count (seat_at n recipient_seats) (fits n)

pub routed_fit : (item : Item) (recipients refused : List ℕ) (origin count : ℕ) (old new : List RecipientSeatView) → item.mark ≡ Some (origin, count + 1) → AllFit origin count old → PutTo item recipients refused old new → AllFit origin (count + 1) new
routed_fit item recipients refused origin count old new is fits put n = routed_fits origin count item (is_in n recipients) (is_in n refused) (seat_at n old) (seat_at n new) is (put.each n) (fits n)

pub sent_fit : (m : ℕ) (item : Item) (put : Bool) (origin count : ℕ) (old new : List RecipientSeatView) → item.mark ≡ None → AllFit origin count old → PutAt m item put old new → AllFit origin count new
sent_fit m item put origin count old new is fits now n = sent_fits origin count item (m == n) ((m == n) && not put) (seat_at n old) (seat_at n new) is (put_once item m put old new now n) (fits n)

pub routed : (place : Option ℕ) (bytes recipients refused : List ℕ) (old new : SenderView) → RoutedTo place bytes recipients refused old new → Routed place bytes recipients refused old new
routed place bytes recipients refused old new h = record {
  count_is = h.count_is;
  item = h.item;
  bytes_are = h.bytes_are;
  mark_is = h.mark_is ∙ ap (λ (o : ℕ). Some (o, old.count + 1)) (sym h.origin_is) ∙ ap (λ (c : ℕ). Some (new.origin, c)) (sym h.count_is);
  place_is = h.place_is;
  puts = λ n. routed_put h.item (is_in n recipients) (is_in n refused) (seat_at n old.recipient_seats) (seat_at n new.recipient_seats) (h.change.each n);
  rising = h.change.rising;
  listed = λ n e. routed_listed h.item (is_in n recipients) (is_in n refused) (seat_at n old.recipient_seats) (seat_at n new.recipient_seats) (h.change.each n) e;
  again = λ n e shut. routed_again h.item (is_in n recipients) (is_in n refused) (seat_at n old.recipient_seats) (seat_at n new.recipient_seats) (h.change.each n) e shut;
  waits = λ n e. routed_waiting h.item (is_in n recipients) (is_in n refused) (seat_at n old.recipient_seats) (seat_at n new.recipient_seats) (h.change.each n) e;
}

-- the recipient_seats of these recipients alone
kept_pick : (recipients : List ℕ) (n : ℕ) (s : RecipientSeatView) (rest kept : List RecipientSeatView) (b e : Bool) → is_in s.recipient recipients ≡ b → (s.recipient == n) ≡ e → seat_at n kept ≡ cond (is_in n recipients) (seat_at n rest) None
    → seat_at n (cond b (s ∷ kept) kept) ≡ cond (is_in n recipients) (cond e (Some s) (seat_at n rest)) None
kept_pick recipients n s rest kept true true its is h =
    ap (λ x. cond x (Some s) (seat_at n kept)) is ∙ ap (λ x. cond x (Some s) None) (sym (ap (λ m. is_in m recipients) (sym (eqb-true s.recipient n is)) ∙ its))
kept_pick recipients n s rest kept true false its is h = ap (λ x. cond x (Some s) (seat_at n kept)) is ∙ h
kept_pick recipients n s rest kept false true its is h =
    let out : is_in n recipients ≡ false = ap (λ m. is_in m recipients) (sym (eqb-true s.recipient n is)) ∙ its in
    h ∙ ap (λ x. cond x (seat_at n rest) None) out ∙ ap (λ x. cond x (Some s) None) (sym out)
kept_pick recipients n s rest kept false false its is h = h

kept_none : (b : Bool) (o : Option RecipientSeatView) → o ≡ None → o ≡ cond b o None
kept_none true o e = refl
kept_none false o e = e

pub kept_at : (recipients : List ℕ) (n : ℕ) (recipient_seats : List RecipientSeatView) → seat_at n (filter (λ s. is_in s.recipient recipients) recipient_seats) ≡ cond (is_in n recipients) (seat_at n recipient_seats) None
kept_at recipients n [] = kept_none (is_in n recipients) None refl
kept_at recipients n (s ∷ ss) =
    kept_pick recipients n s ss (filter (λ s. is_in s.recipient recipients) ss) (is_in s.recipient recipients) (s.recipient == n) refl refl (kept_at recipients n ss)

pub kept_fit : (recipients : List ℕ) (origin count : ℕ) (recipient_seats : List RecipientSeatView) → AllFit origin count recipient_seats → AllFit origin count (filter (λ s. is_in s.recipient recipients) recipient_seats)
kept_fit recipients origin count recipient_seats fits n =
    let P : Option RecipientSeatView → Type 0 = λ o. Fits origin count o in
    subst P (sym (kept_at recipients n recipient_seats)) (pick (is_in n recipients))
  where
    pick : (b : Bool) → Fits origin count (cond b (seat_at n recipient_seats) None)
    pick true = fits n
    pick false = tt

-- each recipient_seat is as it was, but that nothing waits there
pub written_at : (n : ℕ) (recipient_seats : List RecipientSeatView) → seat_at n (all_written recipient_seats) ≡ option_map written (seat_at n recipient_seats)
written_at n [] = refl
written_at n (s ∷ ss) = pick (s.recipient == n) (written_at n ss)
  where
    pick : (b : Bool) → seat_at n (all_written ss) ≡ option_map written (seat_at n ss) → cond b (Some (written s)) (seat_at n (all_written ss)) ≡ option_map written (cond b (Some s) (seat_at n ss))
    pick true e = refl
    pick false e = e

pub written_fit : (origin count : ℕ) (recipient_seats : List RecipientSeatView) → AllFit origin count recipient_seats → AllFit origin count (all_written recipient_seats)
written_fit origin count recipient_seats fits n =
    let P : Option RecipientSeatView → Type 0 = λ o. Fits origin count o in
    subst P (sym (written_at n recipient_seats)) (still (seat_at n recipient_seats) (fits n))
  where
    still : (o : Option RecipientSeatView) → Fits origin count o → Fits origin count (option_map written o)
    still None f = tt
    still (Some s) f = f

pub none_waits : (n : ℕ) (recipient_seats : List RecipientSeatView) → waits_at n (all_written recipient_seats) ≡ false
none_waits n recipient_seats = ap waits_in (written_at n recipient_seats) ∙ nothing (seat_at n recipient_seats)
  where
    nothing : (o : Option RecipientSeatView) → waits_in (option_map written o) ≡ false
    nothing None = refl
    nothing (Some s) = refl
