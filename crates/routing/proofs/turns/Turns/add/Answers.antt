use Rattle.std.proofs.Common.{◌∙◌, ◌==◌, List, Some, cond, ap, refl, sym, subst, arith}
use Rattle.routing.specs.Numbers.{connection_of, TurnsRise, IsAt, IsGap}
use Rattle.routing.specs.Turns.{TurnView, TurnsView, queue_at, AllBefore}
use Rattle.routing.proofs.Places.{rises_inserted}
use Rattle.routing.proofs.Lending.{added_before, added_queue, no_turn}
use Rattle.routing.proofs.turns.Turns.add.Goals as goal

pub unreachable-requires : goal.unreachable-requires
unreachable-requires c =
    let P : List TurnView → Type 0 = λ l. IsAt connection_of c.args.number l c.in-Ok.field-0 in
    let none = ap (λ (v : TurnsView). queue_at c.args.number v.turns) c.self.view_is ∙ c.requires.new in
    no_turn c.args.number c.in-Ok.field-0 c.self.inside.turns.items c.self.invariant.1 none (subst P c.as_slice.ensures.value c.in-Ok.ensures.found)

pub invariant_of-self : goal.invariant_of-self
invariant_of-self c =
    let latest = c.self.inside.latest in
    let turns = c.self.inside.turns.items in
    let t : TurnView = record { number = c.args.number; queue = c.args.turn.queue; last = c.args.turn.last } in
    let P : List TurnView → Type 0 = λ l. IsGap connection_of c.args.number l c.in-Err.place in
    let gap = subst P c.as_slice.ensures.value c.in-Err.ensures.gap in
    let Q : List TurnView → Type 0 = λ l. AllBefore latest l × TurnsRise l in
    let unused = c.requires.unused in
    subst Q (sym c.in-Ok-insert.ensures.items) (added_before latest t c.in-Err.place turns gap (omega (arith, unused)) c.self.invariant.0, rises_inserted connection_of c.args.number c.in-Err.place turns t c.self.invariant.1 gap refl)

pub returns-clause-added : goal.returns-clause-added
returns-clause-added c n =
    let turns = c.self.inside.turns.items in
    let t : TurnView = record { number = c.args.number; queue = c.args.turn.queue; last = c.args.turn.last } in
    let P : List TurnView → Type 0 = λ l. IsGap connection_of c.args.number l c.in-Err.place in
    let gap = subst P c.as_slice.ensures.value c.in-Err.ensures.gap in
    ap (λ (l : List TurnView). queue_at n l) c.in-Ok-insert.ensures.items ∙ added_queue t c.in-Err.place turns gap n
    ∙ ap (λ (v : TurnsView). cond (c.args.number == n) (Some c.args.turn.queue) (queue_at n v.turns)) c.self.view_is
