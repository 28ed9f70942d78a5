use Rattle.std.proofs.Common.{◌≡◌, ◌≤◌, ◌∙◌, List, Some, ap, sym, subst, rules}
use Rattle.std.specs.Prelude.{IsSomeAnd}
use Rattle.std.proofs.lemmas.List.{with_items_is, places}
use Rattle.routing.specs.Puts.{TurnUsed}
use Rattle.routing.specs.Numbers.{TurnsRise}
use Rattle.routing.specs.Turns.{TurnView, TurnsView, turn_at, queue_at, AllBefore}
use Rattle.routing.proofs.Lending.{may_use, still_before, same_queues}
use Rattle.routing.proofs.turns.Turns.put.Goals as goal

pub put_by-requires-clause-turn : goal.put_by-requires-clause-turn
put_by-requires-clause-turn g c =
    let latest = c.self.inside.latest in
    let at = c.requires.placed ∙ ap (λ (v : TurnsView). Some v.latest) (sym c.self.view_is) in
    let has = ap (λ (v : TurnsView). queue_at c.args.number v.turns) c.self.view_is ∙ c.requires.turn in
    let P : List TurnView → Type 0 = λ l. IsSomeAnd (turn_at c.args.number l) (λ t. (t.queue ≡ c.args.outbox.now.queue) × IsSomeAnd c.args.item.place (λ p. t.last ≤ p)) in
    subst P (sym c.as_mut_slice.ensures.value) (may_use c.args.number latest c.args.item.place c.self.inside.turns.items c.args.outbox.now.queue at has c.self.invariant.0)

pub put_by-requires-clause-rise : goal.put_by-requires-clause-rise
put_by-requires-clause-rise g c =
    let P : List TurnView → Type 0 = λ l. TurnsRise l in
    subst P (sym c.as_mut_slice.ensures.value) c.self.invariant.1

pub invariant_of-self : goal.invariant_of-self
invariant_of-self g c =
    let latest = c.self.inside.latest in
    let at = c.requires.placed ∙ ap (λ (v : TurnsView). Some v.latest) (sym c.self.view_is) in
    let P : List TurnView → Type 0 = λ l. AllBefore latest l × TurnsRise l in
    let U : List TurnView → Type 0 = λ l. IsSomeAnd c.args.item.place (λ p. TurnUsed c.args.number p l c.put_by.new.turns) in
    subst P (sym (with_items_is c.self.inside.turns c.put_by.new.turns (search (rules, places)))) (
      still_before c.args.item.place latest c.args.number c.self.inside.turns.items c.put_by.new.turns at (subst U c.as_mut_slice.ensures.value c.put_by.ensures.turn) c.self.invariant.0,
      c.put_by.ensures.rise,
    )

pub returns-clause-turns : goal.returns-clause-turns
returns-clause-turns g c =
    let latest = c.self.inside.latest in
    let at = c.requires.placed ∙ ap (λ (v : TurnsView). Some v.latest) (sym c.self.view_is) in
    let U : List TurnView → Type 0 = λ l. IsSomeAnd c.args.item.place (λ p. TurnUsed c.args.number p l c.put_by.new.turns) in
    let same = same_queues c.args.item.place latest c.args.number c.self.inside.turns.items c.put_by.new.turns at (subst U c.as_mut_slice.ensures.value c.put_by.ensures.turn) in
    record {
      latest = ap (λ (v : TurnsView). v.latest) c.self.view_is;
      queues = λ n.
          ap (λ (l : List TurnView). queue_at n l) (with_items_is c.self.inside.turns c.put_by.new.turns (search (rules, places))) ∙ same n
          ∙ ap (λ (v : TurnsView). queue_at n v.turns) c.self.view_is;
    }
