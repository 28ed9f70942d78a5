use Rattle.std.proofs.Common.{take}
use Rattle.routing.specs.RecipientSeats.{AllHave}
use Rattle.passes.proofs.seating.has_all.Given as goal

abbrev pub invariant-loop-number : goal.invariant-loop-number
invariant-loop-number g l = AllHave (take l.number-index l.numbers) l.sender.recipient_seats
