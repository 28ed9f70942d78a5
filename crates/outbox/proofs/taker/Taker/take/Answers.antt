use Rattle.std.proofs.Common.{ℕ, ◌≡◌, [], ◌∷◌, ◌++◌, sym, ap, ◌∙◌}
use Rattle.outbox.specs.Items.{Item}
use Rattle.outbox.specs.Taken.{Taking, deliveries}
use Rattle.outbox.proofs.Deliveries.{all_but_held, in_order_but_held, places_but_held}
use Rattle.outbox.proofs.taker.Taker.take.Given.{Over}
use Rattle.outbox.proofs.taker.Taker.take.Goals as goal

-- what was taken is what was given out, and the item that is held now
held_now : (g : Over) (c : goal.Joined-self g) → (by : ℕ) × (c.self.inside.seat.view.taken ≡ deliveries c.args.self.now ++ (by, c.in-Err.item) ∷ [])
held_now g c =
    let last = c.in_ok-item.ensures.taken in
    let same : c.in-Err.item ≡ c.in_ok-item.item = c.in-Err.ensures in
    (last.0, ap (λ (t : Taking). t.seat.view.taken) c.self.view_is ∙ last.1 ∙ ap (λ (i : Item). deliveries c.args.self.now ++ (last.0, i) ∷ []) (sym same))

pub returns-in-Err-clause-deliveries : goal.returns-in-Err-clause-deliveries
returns-in-Err-clause-deliveries g c = all_but_held (deliveries c.args.self.now) c.self.inside.seat.view.taken c.in-Err.item (held_now g c)

pub returns-in-Err-clause-order : goal.returns-in-Err-clause-order
returns-in-Err-clause-order g c = in_order_but_held (deliveries c.args.self.now) c.self.inside.seat.view.taken c.in-Err.item (held_now g c) c.self.invariant.2

pub returns-in-Err-clause-places : goal.returns-in-Err-clause-places
returns-in-Err-clause-places g c = places_but_held (deliveries c.args.self.now) c.self.inside.seat.view.taken c.in-Err.item (held_now g c) c.self.invariant.3
