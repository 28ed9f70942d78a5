use Rattle.std.proofs.Common.{arith}
use Rattle.program_table.proofs.Places.{place_found, none_found, not_there}
use Rattle.program_table.proofs.connections.place_of.Goals as goal
use Rattle.program_table.proofs.connections.place_of.Goals.{else-place-list-via-then-place-list+else-list-place, else-place-list-via-else-place-list}

pub returns-then-list-place : goal.returns-then-list-place
returns-then-list-place g c =
    place_found c.args.number c.lower_bound-place.result c.args.list.now c.index-list-place.result c.requires c.if-place-list.true c.if-list-place.true

pub returns-else-place-list : goal.returns-else-place-list
returns-else-place-list g c = elim c.else-place-list.branch [
  | else-place-list-via-then-place-list+else-list-place w ↦ none_found c.args.number c.lower_bound-place.result c.args.list.now c.lower_bound-place.ensures.below c.lower_bound-place.ensures.above c.requires (λ less. not_there c.args.number c.lower_bound-place.result c.args.list.now w.index-list-place.result less w.if-list-place.false)
  | else-place-list-via-else-place-list w ↦ none_found c.args.number c.lower_bound-place.result c.args.list.now c.lower_bound-place.ensures.below c.lower_bound-place.ensures.above c.requires (λ less. absurd (omega (arith, less, w.if-place-list.false)))
]
