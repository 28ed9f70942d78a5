use Rattle.passes.proofs.Seats.{keeps_same, keeps_on, nothing_same, nothing_on, next_seat, in_at}
use Rattle.passes.proofs.seating.take_seats.Goals as goal

pub take_seat-requires : goal.take_seat-requires
take_seat-requires g c = c.requires _ (in_at c.args.numbers.now c.loop-number.number-index 0 c.loop-number-test.true)

pub loop-number-init : goal.loop-number-init
loop-number-init g c = record { keeps = keeps_same g.M.Mailbox.outbox_of c.args.state.now c.args.sender.now; put = nothing_same c.args.state.now c.args.sender.now; all = tt }

pub loop-number-preserved : goal.loop-number-preserved
loop-number-preserved g c = record {
  keeps = keeps_on g.M.Mailbox.outbox_of c.args.state.now c.args.sender.now c.loop-number.sender c.take_seat.new.sender c.loop-number.invariant.keeps c.take_seat.ensures.keeps;
  put = nothing_on c.args.state.now c.args.sender.now c.loop-number.sender c.take_seat.new.sender c.loop-number.invariant.put c.take_seat.ensures.put;
  all = next_seat g.M.Mailbox.outbox_of c.args.state.now c.args.numbers.now c.loop-number.number-index 0 c.loop-number.sender c.take_seat.new.sender c.loop-number-test.true c.requires c.loop-number.invariant.all c.take_seat.ensures.keeps c.in_ok-take_seat.ensures.has;
}

pub returns-in_err-take_seat-clause-keeps : goal.returns-in_err-take_seat-clause-keeps
returns-in_err-take_seat-clause-keeps g c = keeps_on g.M.Mailbox.outbox_of c.args.state.now c.args.sender.now c.loop-number.sender c.take_seat.new.sender c.loop-number.invariant.keeps c.take_seat.ensures.keeps

pub returns-in_err-take_seat-clause-put : goal.returns-in_err-take_seat-clause-put
returns-in_err-take_seat-clause-put g c = nothing_on c.args.state.now c.args.sender.now c.loop-number.sender c.take_seat.new.sender c.loop-number.invariant.put c.take_seat.ensures.put
