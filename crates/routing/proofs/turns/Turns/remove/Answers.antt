use Rattle.std.proofs.Common.{◌≡◌, ◌∙◌, ◌==◌, not, List, None, cond, filter, ap, sym, subst, rules}
use Rattle.std.proofs.lemmas.Fn.{filter_same}
use Rattle.routing.specs.Numbers.{connection_of, TurnsRise}
use Rattle.routing.specs.Turns.{TurnView, TurnsView, queue_at, AllBefore}
use Rattle.routing.proofs.Places.{rises_filtered}
use Rattle.routing.proofs.Lending.{left_before, left_queue}
use Rattle.routing.proofs.turns.Turns.remove.Goals as goal

pub invariant_of-self : goal.invariant_of-self
invariant_of-self c =
    let P : List TurnView → Type 0 = λ l. AllBefore c.self.inside.latest l × TurnsRise l in
    let is : c.retain.new.self.items ≡ filter (λ (t : TurnView). not (t.number == c.args.number)) c.self.inside.turns.items = filter_same _ _ _ (λ x b f' k. search rules) _ _ c.retain.ensures.filtered in
    subst P (sym is) (
      left_before c.self.inside.latest c.args.number c.self.inside.turns.items c.self.invariant.0,
      rises_filtered connection_of (λ (t : TurnView). not (t.number == c.args.number)) c.self.inside.turns.items c.self.invariant.1,
    )

pub returns-clause-gone : goal.returns-clause-gone
returns-clause-gone c n =
    let is : c.retain.new.self.items ≡ filter (λ (t : TurnView). not (t.number == c.args.number)) c.self.inside.turns.items = filter_same _ _ _ (λ x b f' k. search rules) _ _ c.retain.ensures.filtered in
    ap (λ (l : List TurnView). queue_at n l) is ∙ left_queue c.args.number n c.self.inside.turns.items
    ∙ ap (λ (v : TurnsView). cond (c.args.number == n) None (queue_at n v.turns)) c.self.view_is
