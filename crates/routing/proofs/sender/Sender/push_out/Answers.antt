use Rattle.std.proofs.Common.{List, refl, rules, subst, sym, ap, ◌∙◌}
use Rattle.std.proofs.lemmas.List.{with_items_is, places}
use Rattle.routing.specs.SenderView.{RecipientSeatView}
use Rattle.routing.specs.RecipientSeats.{AllFit, waits_at, all_written, written}
use Rattle.routing.specs.Numbers.{recipient_of, SeatsRise}
use Rattle.routing.proofs.Places.{rises_mapped}
use Rattle.routing.specs.Settled.{HoldsOwn}
use Rattle.routing.proofs.Own.{written_own}
use Rattle.routing.proofs.Routes.{written_fit, none_waits}
use Rattle.routing.proofs.sender.Sender.push_out.Goals as goal

pub invariant_of-self : goal.invariant_of-self
invariant_of-self g c =
    let origin = c.self.inside.origin in
    let count = c.self.inside.count in
    let kept : List RecipientSeatView → Type 0 = λ l. AllFit origin count l × SeatsRise l × HoldsOwn c.self.inside.has_withdrawn c.self.inside.releases l in
    let done = subst kept (sym (with_items_is c.self.inside.recipient_seats c.push_out_all.new.recipient_seats (search (rules, places)) ∙ c.push_out_all.ensures ∙ ap all_written c.as_mut_slice.ensures.value)) (
      written_fit origin count c.self.inside.recipient_seats.items c.self.invariant.0,
      rises_mapped recipient_of written c.self.inside.recipient_seats.items (λ s. refl) c.self.invariant.1,
      written_own c.self.inside.has_withdrawn c.self.inside.releases c.self.inside.recipient_seats.items c.self.invariant.3,
    ) in
    (done.0, done.1, c.self.invariant.2, done.2)

pub returns-clause-none : goal.returns-clause-none
returns-clause-none g c n =
    let done = with_items_is c.self.inside.recipient_seats c.push_out_all.new.recipient_seats (search (rules, places)) ∙ c.push_out_all.ensures ∙ ap all_written c.as_mut_slice.ensures.value in
    ap (waits_at n) done ∙ none_waits n c.self.inside.recipient_seats.items
