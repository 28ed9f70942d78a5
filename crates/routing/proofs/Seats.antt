-- Seats that are taken.
use Rattle.std.proofs.Common.{ℕ, ◌≡◌, ◌==◌, Option, Some, None, IsSome, Bool, true, false, true≢false, cond, List, [], ◌∷◌, refl, sym, subst, eqb-true, eq-eqb, inl}
use Rattle.std.specs.List.{insert}
use Rattle.outbox.specs.Views.{blank}
use Rattle.routing.specs.SenderView.{RecipientView, RecipientSeatView}
use Rattle.routing.specs.RecipientSeats.{seat_at, HasSeat}
use Rattle.routing.specs.Numbers.{recipient_of, IsGap}
use Rattle.routing.specs.Puts.{TakenAt, SeatsTaken}
use Rattle.routing.proofs.Places.{gap_lacks, inserted}

-- a new recipient_seat is this recipient's, where it had none
pub new_taken : (r : RecipientView) (k : ℕ) (t : RecipientSeatView) (old : List RecipientSeatView) → IsGap recipient_of r.number old k → t.recipient ≡ r.number → t.outbox ≡ r.outbox → t.seat.view ≡ blank → t.is_waiting ≡ false → SeatsTaken (r ∷ []) old (insert old k t)
new_taken r k t old gap is at new none n =
    let P : Option RecipientSeatView → Type 0 = λ o. TakenAt (r ∷ []) n (seat_at n old) o in
    subst P (sym (inserted recipient_of r.number k old t gap is n)) (pick (seat_at n old) (r.number == n) refl refl)
  where
    lacks : (o : Option RecipientSeatView) (s : RecipientSeatView) → o ≡ None → o ≡ Some s → ⊥
    lacks None s e h = absurd (cc)
    lacks (Some r) s e h = absurd (cc)

    pick : (o : Option RecipientSeatView) (b : Bool) → seat_at n old ≡ o → (r.number == n) ≡ b → TakenAt (r ∷ []) n o (cond b (Some t) o)
    pick (Some s) false e f = refl
    pick (Some s) true e f =
        let Q : ℕ → Type 0 = λ m. seat_at m old ≡ None in
        absurd (lacks (seat_at n old) s (subst Q (eqb-true r.number n f) (gap_lacks recipient_of r.number k old gap)) e)
    pick None true e f = (inl (eqb-true r.number n f, sym at), new, none)
    pick None false e f = tt

pub new_has : (n k : ℕ) (t : RecipientSeatView) (old : List RecipientSeatView) → IsGap recipient_of n old k → t.recipient ≡ n → HasSeat n (insert old k t)
new_has n k t old gap is =
    let P : Option RecipientSeatView → Type 0 = λ o. IsSome o in
    subst P (sym (inserted recipient_of n k old t gap is n)) (pick (n == n) (eq-eqb n n refl))
  where
    pick : (b : Bool) → b ≡ true → IsSome (cond b (Some t) (seat_at n old))
    pick true e = refl
    pick false e = absurd (true≢false (sym e))
