use Rattle.std.proofs.Common.{◌+◌, List, rules, subst, sym}
use Rattle.std.proofs.lemmas.List.{with_items_is, places}
use Rattle.outbox.specs.Items.{Item}
use Rattle.routing.specs.SenderView.{RecipientSeatView}
use Rattle.routing.specs.RecipientSeats.{AllFit}
use Rattle.routing.specs.Numbers.{SeatsRise}
use Rattle.routing.specs.Puts.{PutTo}
use Rattle.routing.specs.Settled.{HoldsOwn}
use Rattle.routing.proofs.Routes.{routed_fit}
use Rattle.routing.proofs.Own.{routed_own, on_and_on, own_on}
use Rattle.routing.proofs.sender.Sender.put_broadcast.Goals as goal

pub invariant_of-self-2 : goal.invariant_of-self-2
invariant_of-self-2 g c =
    let origin = c.self.inside.origin in
    let count = c.self.inside.count in
    let item : Item = c.in_ok-shares.shares.message in
    let put : List RecipientSeatView → Type 0 = λ l. PutTo item c.args.recipients.now c.put_all.new.refused.items l c.put_all.new.recipient_seats in
    let before = c.self.inside.releases in
    let during = c.begin.new.releases in
    let after = c.end.new.releases in
    let on = c.end.ensures.on in
    let kept : List RecipientSeatView → Type 0 = λ l. AllFit origin (count + 1) l × SeatsRise l × HoldsOwn c.self.inside.has_withdrawn after l in
    let done = subst kept (sym (with_items_is c.self.inside.recipient_seats c.put_all.new.recipient_seats (search (rules, places)))) (
      routed_fit item c.args.recipients.now c.put_all.new.refused.items origin count c.self.inside.recipient_seats.items c.put_all.new.recipient_seats c.in_ok-shares.ensures.shares.1 c.self.invariant.0
          (subst put c.as_mut_slice.ensures.value c.put_all.ensures.put),
      c.put_all.ensures.rise,
      routed_own c.self.inside.has_withdrawn before after item c.args.recipients.now c.put_all.new.refused.items c.self.inside.recipient_seats.items c.put_all.new.recipient_seats
          (on_and_on before during after c.in_ok-shares.ensures.on on) (own_on during after item.hold on c.in_ok-shares.ensures.own) (subst put c.as_mut_slice.ensures.value c.put_all.ensures.put) c.self.invariant.3,
    ) in
    (done.0, done.1, c.end.ensures.settled, done.2)
