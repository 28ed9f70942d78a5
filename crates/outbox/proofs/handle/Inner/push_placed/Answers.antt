use Rattle.std.proofs.Common.{ℕ, ◌≡◌, ◌≤◌, Option, IsSomeAnd, refl, sym, ap, subst}
use Rattle.outbox.specs.declared.rule.SeatView.{SeatView}
use Rattle.outbox.specs.Seated.{Seated, Turning}
use Rattle.outbox.specs.Views.{Follows}
use Rattle.outbox.proofs.Placing.{put_had, turn_again, turn_there}
use Rattle.outbox.proofs.Steps.{admits, lends_any, puts_placed, gives_back}
use Rattle.outbox.proofs.handle.Inner.push_placed.Goals as goal

pub pass-spare-requires : goal.pass-spare-requires
pass-spare-requires g c = admits

pub absorb-requires-clause-rule : goal.absorb-requires-clause-rule
absorb-requires-clause-rule g c = lends_any _ _ _ _ (turn_again _ c.turn.inside.pass.me.view.client (ap (λ p. p.me.view.client) c.replace-lent.ensures.value) c.turn.invariant.2)

pub push_as-put-requires-clause-rule : goal.push_as-put-requires-clause-rule
push_as-put-requires-clause-rule g c = λ n.
    let had = turn_there c.seat.inside.pass.me.view.client _ c.turn.inside.pass.me.view.client _ (ap (λ p. p.me.view.client) c.replace-lent.ensures.value) c.turn.invariant.2 c.absorb.ensures.rule in
    let P : ℕ → Type 0 = λ n. IsSomeAnd c.args.item.place (λ place. n ≤ place) in
    let may : SeatView → Type 0 = λ v. Follows v.put c.args.item.mark in
    let before : Follows c.seat.inside.pass.me.view.client.put c.args.item.mark = subst may (ap (λ (s : Seated). s.view) (sym c.seat.view_is)) c.requires.follows in
    let now : Follows c.absorb.new.pass.me.view.client.put c.args.item.mark = subst may (sym c.absorb.ensures.rule) before in
    puts_placed n _ _ _ _ now had (subst P (ap (λ (t : Turning). t.last) (sym c.turn.view_is)) c.requires.placed)

pub another-requires-clause-rule : goal.another-requires-clause-rule
another-requires-clause-rule g c =
    let had = turn_there c.seat.inside.pass.me.view.client _ c.turn.inside.pass.me.view.client _ (ap (λ p. p.me.view.client) c.replace-lent.ensures.value) c.turn.invariant.2 c.absorb.ensures.rule in
    gives_back _ _ (put_had _ _ _ _ _ _ (_, had) c.push_as-put.ensures.rule)
