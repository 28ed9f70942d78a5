use Rattle.std.proofs.Common.{rules}
use Rattle.std.proofs.lemmas.List.Edits.{map_over_more}
use Rattle.std.proofs.lemmas.List.{take_all, drop_all}
use Rattle.routing.specs.RecipientSeats.{written}
use Rattle.routing.proofs.recipient_seats.push_out_all.Goals as goal

pub loop-place-preserved : goal.loop-place-preserved
loop-place-preserved g c = search (rules, map_over_more written)

pub returns : goal.returns
returns g c = search (rules, take_all, drop_all)
