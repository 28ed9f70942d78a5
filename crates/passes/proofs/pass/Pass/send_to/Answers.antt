use Rattle.std.proofs.Common.{None, refl, ap}
use Rattle.passes.specs.declared.standing.Standing.TheVariants as standings
use Rattle.passes.proofs.Delivering.{its_seat, delivered}
use Rattle.passes.specs.Passes.{PassState}
use Rattle.passes.proofs.Theirs.{theirs_sent}
use Rattle.passes.proofs.pass.Pass.send_to.Goals as goal

pub deliver-answer-requires-clause-has : goal.deliver-answer-requires-clause-has
deliver-answer-requires-clause-has g c = its_seat _ c.seat_owner-seated.result _ _ _ c.seat_owner-seated.ensures.owner

pub returns-clause-sent : goal.returns-clause-sent
returns-clause-sent g c =
    delivered _ standings.Apart None g.M.Mailbox.outbox_of c.args.to.now c.args.bytes.now c.args.self.now c.enter.new.self c.take_sender-sender.new.self c.leave.new.self c.put_back.new.self c.in_ok-guard.guard c.state.result.now
    c.take_sender-sender.result c.seat_owner-seated.new.sender c.deliver-answer.new.sender c.seat_owner-seated.result c.deliver-answer.result
    (record {
      entered = c.enter.ensures.same;
      begins = c.in_ok-guard.ensures.guard.0;
      state = c.state.ensures.state;
      taken = c.take_sender-sender.ensures.same;
      is = c.take_sender-sender.ensures.sender;
      left = c.leave.ensures;
      back = c.put_back.ensures;
    })
    c.seat_owner-seated.ensures.owner c.seat_owner-seated.ensures.keeps c.seat_owner-seated.ensures.put c.deliver-answer.ensures.keeps c.seats.ensures.fits c.deliver-answer.ensures.sent c.deliver-answer.ensures.err refl

pub put_back-requires-clause-theirs : goal.put_back-requires-clause-theirs
put_back-requires-clause-theirs g c =
    theirs_sent g.M.Mailbox.outbox_of c.args.self.now c.enter.new.self c.leave.new.self c.in_ok-guard.guard c.state.result.now c.take_sender-sender.result c.seat_owner-seated.new.sender c.deliver-answer.new.sender c.enter.ensures.same c.in_ok-guard.ensures.guard.0
    c.state.ensures.history c.state.ensures.state (ap (λ (v : PassState g.row.M.Denot). v.seen) c.leave.ensures) c.take_sender-sender.ensures.theirs c.seat_owner-seated.ensures.keeps c.deliver-answer.ensures.keeps
