use Rattle.std.proofs.Common.{take}
use Rattle.routing.specs.RecipientSeats.{AllHave}
use Rattle.passes.specs.Seats.{KeepsThere, NothingPut}
use Rattle.passes.proofs.seating.take_seats.Given as goal

abbrev pub invariant-loop-number : goal.invariant-loop-number
invariant-loop-number g l = record {
  keeps : KeepsThere g.M.Mailbox.outbox_of l.state l.initial.sender l.sender;
  put : NothingPut l.state l.initial.sender l.sender;
  all : AllHave (take l.number-index l.numbers) l.sender.recipient_seats;
}
