use Rattle.std.proofs.Common.{List, rules, subst, sym}
use Rattle.std.proofs.lemmas.List.{with_items_is, places}
use Rattle.outbox.specs.Items.{Item}
use Rattle.routing.specs.SenderView.{RecipientSeatView}
use Rattle.routing.specs.RecipientSeats.{AllFit}
use Rattle.routing.specs.Numbers.{SeatsRise}
use Rattle.routing.specs.Puts.{PutAt}
use Rattle.routing.specs.Settled.{HoldsOwn}
use Rattle.routing.proofs.Routes.{sent_fit}
use Rattle.routing.proofs.Own.{all_on, sent_own}
use Rattle.routing.proofs.sender.Sender.put.Goals as goal

pub invariant_of-self : goal.invariant_of-self
invariant_of-self g c = (
  c.self.invariant.0,
  c.self.invariant.1,
  c.message.ensures.settled,
  all_on c.self.inside.has_withdrawn c.self.inside.releases c.message.new.releases c.self.inside.recipient_seats.items c.message.ensures.on c.self.invariant.3,
)

pub invariant_of-self-2 : goal.invariant_of-self-2
invariant_of-self-2 g c =
    let origin = c.self.inside.origin in
    let count = c.self.inside.count in
    let item : Item = c.in_ok-item.item in
    let put : List RecipientSeatView → Type 0 = λ l. PutAt c.args.recipient item c.put_at-put.result l c.put_at-put.new.recipient_seats in
    let change = subst put c.as_mut_slice.ensures.value c.put_at-put.ensures.put in
    let kept : List RecipientSeatView → Type 0 = λ l. AllFit origin count l × SeatsRise l × HoldsOwn c.self.inside.has_withdrawn c.message.new.releases l in
    let done = subst kept (sym (with_items_is c.self.inside.recipient_seats c.put_at-put.new.recipient_seats (search (rules, places)))) (
      sent_fit c.args.recipient item c.put_at-put.result origin count c.self.inside.recipient_seats.items c.put_at-put.new.recipient_seats c.in_ok-item.ensures.item.1 c.self.invariant.0 change,
      c.put_at-put.ensures.rise,
      sent_own c.self.inside.has_withdrawn c.self.inside.releases c.message.new.releases c.args.recipient item c.put_at-put.result c.self.inside.recipient_seats.items c.put_at-put.new.recipient_seats c.message.ensures.on c.in_ok-item.ensures.own change c.self.invariant.3,
    ) in
    (done.0, done.1, c.message.ensures.settled, done.2)
