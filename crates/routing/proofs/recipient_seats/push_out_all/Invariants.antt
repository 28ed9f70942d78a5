use Rattle.std.proofs.Common.{◌≡◌, ◌++◌, take, drop, map}
use Rattle.routing.specs.RecipientSeats.{written}
use Rattle.routing.proofs.recipient_seats.push_out_all.Given as goal

abbrev pub invariant-loop-place : goal.invariant-loop-place
invariant-loop-place g l = l.recipient_seats ≡ map written (take l.place l.initial.recipient_seats) ++ drop l.place l.initial.recipient_seats
