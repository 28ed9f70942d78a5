use Rattle.std.proofs.Common.{ℕ, List, ◌∷◌, [], sym, subst}
use Rattle.routing.specs.SenderView.{RecipientSeatView}
use Rattle.routing.specs.RecipientSeats.{HasSeat}
use Rattle.routing.specs.Numbers.{recipient_of, IsAt, IsGap, SeatsRise}
use Rattle.routing.specs.Puts.{SeatsTaken}
use Rattle.routing.proofs.Places.{is_there, rises_inserted}
use Rattle.routing.proofs.Seats.{new_taken, new_has}
use Rattle.routing.proofs.recipient_seats.take_seat.Goals as goal

pub returns-in-Ok-clause-has : goal.returns-in-Ok-clause-has
returns-in-Ok-clause-has g c =
    let seats = c.args.recipient_seats.now.items in
    let P : List RecipientSeatView → Type 0 = λ l. IsAt recipient_of c.number.result l c.in-Ok.field-0 in
    let Q : ℕ → Type 0 = λ n. IsAt recipient_of n seats c.in-Ok.field-0 in
    is_there recipient_of c.args.recipient.number c.in-Ok.field-0 seats c.requires.rise (subst Q c.number.ensures (subst P c.as_slice.ensures.value c.in-Ok.ensures.found))

pub returns-in_ok-insert-in-Err-clause-rise : goal.returns-in_ok-insert-in-Err-clause-rise
returns-in_ok-insert-in-Err-clause-rise g c =
    let seats = c.args.recipient_seats.now.items in
    let P : List RecipientSeatView → Type 0 = λ l. IsGap recipient_of c.number.result l c.in-Err.place in
    let Q : ℕ → Type 0 = λ n. IsGap recipient_of n seats c.in-Err.place in
    let gap = subst Q c.number.ensures (subst P c.as_slice.ensures.value c.in-Err.ensures.gap) in
    let rise : List RecipientSeatView → Type 0 = λ l. SeatsRise l in
    subst rise (sym c.in_ok-insert-in-Err.ensures.items) (rises_inserted recipient_of c.args.recipient.number c.in-Err.place seats c.in_ok-recipient_seat-in-Err.recipient_seat c.requires.rise gap c.in_ok-recipient_seat-in-Err.ensures.0)

pub returns-in_ok-insert-in-Err-clause-taken : goal.returns-in_ok-insert-in-Err-clause-taken
returns-in_ok-insert-in-Err-clause-taken g c =
    let seats = c.args.recipient_seats.now.items in
    let new = c.in_ok-recipient_seat-in-Err in
    let P : List RecipientSeatView → Type 0 = λ l. IsGap recipient_of c.number.result l c.in-Err.place in
    let Q : ℕ → Type 0 = λ n. IsGap recipient_of n seats c.in-Err.place in
    let gap = subst Q c.number.ensures (subst P c.as_slice.ensures.value c.in-Err.ensures.gap) in
    let taken : List RecipientSeatView → Type 0 = λ l. SeatsTaken (c.args.recipient ∷ []) seats l in
    subst taken (sym c.in_ok-insert-in-Err.ensures.items) (new_taken c.args.recipient c.in-Err.place new.recipient_seat seats gap new.ensures.0 new.ensures.1 new.ensures.2 new.ensures.3)

pub returns-in_ok-insert-in-Err-clause-has : goal.returns-in_ok-insert-in-Err-clause-has
returns-in_ok-insert-in-Err-clause-has g c =
    let seats = c.args.recipient_seats.now.items in
    let P : List RecipientSeatView → Type 0 = λ l. IsGap recipient_of c.number.result l c.in-Err.place in
    let Q : ℕ → Type 0 = λ n. IsGap recipient_of n seats c.in-Err.place in
    let gap = subst Q c.number.ensures (subst P c.as_slice.ensures.value c.in-Err.ensures.gap) in
    let has : List RecipientSeatView → Type 0 = λ l. HasSeat c.args.recipient.number l in
    subst has (sym c.in_ok-insert-in-Err.ensures.items) (new_has c.args.recipient.number c.in-Err.place c.in_ok-recipient_seat-in-Err.recipient_seat seats gap c.in_ok-recipient_seat-in-Err.ensures.0)
