use Rattle.std.proofs.Common.{◌≡◌, ◌≤◌, ◌∙◌, get_or}
use Rattle.std.specs.Prelude.{IsSomeAnd}
use Rattle.routing.specs.Turns.{TurnView}
use Rattle.routing.specs.Numbers.{connection_of}
use Rattle.routing.proofs.Places.{found, never_lacks, holds_there, rises_set, set_there}
use Rattle.routing.proofs.Lending.{used}
use Rattle.routing.proofs.turns.put_by.Goals as goal

pub put-requires-clause-turn : goal.put-requires-clause-turn
put-requires-clause-turn g c =
    (holds_there connection_of c.args.number c.in-Ok.place c.args.turns.now c.index-turns-place.result (λ (t : TurnView). (t.queue ≡ c.args.outbox.now.queue) × IsSomeAnd c.args.item.place (λ p. t.last ≤ p)) c.requires.rise c.in-Ok.ensures.found c.requires.turn).0

pub put-requires-clause-placed : goal.put-requires-clause-placed
put-requires-clause-placed g c =
    (holds_there connection_of c.args.number c.in-Ok.place c.args.turns.now c.index-turns-place.result (λ (t : TurnView). (t.queue ≡ c.args.outbox.now.queue) × IsSomeAnd c.args.item.place (λ p. t.last ≤ p)) c.requires.rise c.in-Ok.ensures.found c.requires.turn).1

pub unreachable-requires : goal.unreachable-requires
unreachable-requires g c =
    never_lacks connection_of c.args.number _ c.args.turns.now (λ (t : TurnView). (t.queue ≡ c.args.outbox.now.queue) × IsSomeAnd c.args.item.place (λ p. t.last ≤ p)) c.requires.turn c.in-Err.ensures.gap

pub returns-clause-rise : goal.returns-clause-rise
returns-clause-rise g c =
    let at = c.in-Ok.ensures.found in
    rises_set connection_of c.args.number c.in-Ok.place c.args.turns.now c.put.new.self c.requires.rise at (c.put.ensures.turn.0 ∙ at.here c.index-turns-place.result)

pub returns-clause-turn : goal.returns-clause-turn
returns-clause-turn g c =
    let turns = c.args.turns.now in
    let d = c.index-turns-place.result in
    let at = c.in-Ok.ensures.found in
    used c.args.item.place c.args.number turns _ (get_or turns c.in-Ok.place d) c.put.new.self (found connection_of c.args.number c.in-Ok.place turns d c.requires.rise at) c.put.ensures.turn.1 c.put.ensures.turn.2
    (set_there connection_of c.args.number c.in-Ok.place turns c.put.new.self c.requires.rise at (c.put.ensures.turn.0 ∙ at.here d))
