use Rattle.std.proofs.Common.{IsSomeAnd, sym, subst, rules, arith, get_or, ◌∙◌}
use Rattle.outbox.specs.Items.{Item}
use Rattle.outbox.specs.Views.{Follows}
use Rattle.routing.specs.SenderView.{RecipientSeatView}
use Rattle.routing.specs.RecipientSeats.{seat_at}
use Rattle.routing.specs.Puts.{PutAt}
use Rattle.routing.specs.Turns.{StandsAt}
use Rattle.routing.proofs.Lending.{turns_kept_on}
use Rattle.routing.proofs.Puts.{stands_next, may_put, next_recipient, noted_length}
use Rattle.routing.proofs.recipient_seats.put_all.Goals as goal

pub next-requires : goal.next-requires
next-requires g c = omega (arith, c.loop-recipient.invariant.2, c.loop-recipient-test.true)

pub put_at-put-requires-clause-follows : goal.put_at-put-requires-clause-follows
put_at-put-requires-clause-follows g c =
    let l = c.loop-recipient in
    let message : Item = c.args.shares.now.message in
    let P : Item → Type 0 = λ i. IsSomeAnd (seat_at (get_or c.args.recipients.now l.recipient-index 0) l.recipient_seats) (λ (s : RecipientSeatView). Follows s.seat.view.put i.mark) in
    subst P (sym (c.next.ensures.item ∙ l.invariant.3))
    (may_put message l.recipient-index c.args.recipients.now _ l.refused.items c.args.recipient_seats.now l.recipient_seats (λ (s : RecipientSeatView). Follows s.seat.view.put message.mark)
    c.loop-recipient-test.true c.requires.rising c.requires.has c.requires.follows l.invariant.0)

pub put_at-put-requires-clause-stands : goal.put_at-put-requires-clause-stands
put_at-put-requires-clause-stands g c =
    let l = c.loop-recipient in
    let message : Item = c.args.shares.now.message in
    let m = get_or c.args.recipients.now l.recipient-index 0 in
    let P : Item → Type 0 = λ i. StandsAt i.place m l.recipient_seats l.turns in
    subst P (sym (c.next.ensures.item ∙ l.invariant.3))
    (stands_next message l.recipient-index c.args.recipients.now _ l.refused.items c.args.recipient_seats.now l.recipient_seats c.args.turns.now l.turns c.loop-recipient-test.true c.requires.rising c.requires.stands l.invariant.0 l.invariant.4)

pub loop-recipient-preserved : goal.loop-recipient-preserved
loop-recipient-preserved g c =
    let l = c.loop-recipient in
    let P : Item → Type 0 = λ i. PutAt (get_or c.args.recipients.now l.recipient-index 0) i c.put_at-put.result l.recipient_seats c.put_at-put.new.recipient_seats in
    let put = subst P (c.next.ensures.item ∙ l.invariant.3) c.put_at-put.ensures.put in (
      next_recipient _ _ c.args.recipients.now _ l.refused.items _ _ l.recipient_seats _ c.put_at-put.result c.loop-recipient-test.true c.requires.rising c.note.ensures l.invariant.0 put,
      noted_length c.put_at-put.result _ l.refused.items _ _ c.note.ensures l.invariant.1,
      omega (arith, c.next.ensures.left.0, l.invariant.2),
      search rules,
      turns_kept_on c.args.turns.now l.turns c.put_at-put.new.turns l.invariant.4 c.put_at-put.ensures.turns,
      c.put_at-put.ensures.rise,
    )
