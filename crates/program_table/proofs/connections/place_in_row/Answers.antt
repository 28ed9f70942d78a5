use Rattle.std.proofs.Common.{arith}
use Rattle.program_table.proofs.Places.{place_found}
use Rattle.program_table.proofs.connections.place_in_row.Goals as goal

pub returns-then-list-place : goal.returns-then-list-place
returns-then-list-place g c =
    place_found c.args.number _ c.args.list.now c.index-list-place.result c.requires (omega (arith, c.if-distance-list.false)) c.if-list-place.true
