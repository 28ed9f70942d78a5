use Rattle.std.proofs.Common.{ℕ, List, None, refl, ap, sym, subst, ◌∙◌}
use Rattle.message_view.specs.Valid.{Valid}
use Rattle.passes.specs.Passes.{PassState, sender_of}
use Rattle.passes.specs.declared.standing.Standing.TheVariants as standings
use Rattle.passes.proofs.Sending.{answered}
use Rattle.passes.proofs.Theirs.{theirs_sent}
use Rattle.passes.proofs.pass.Pass.broadcast.Goals as goal

pub returns-clause-routed : goal.returns-clause-routed
returns-clause-routed g c =
    answered _ standings.Apart None g.M.Mailbox.outbox_of c.args.source c.sender-from.result c.args.bytes.now c.args.self.now c.enter.new.self c.take_sender-sender.new.self c.leave.new.self c.put_back.new.self c.in_ok-guard.guard c.state.result.now
    c.take_sender-sender.result c.seat_recipients-seated.new.sender c.route-answer.new.sender c.seat_recipients-seated.new.recipients.items c.route-answer.new.refused.items c.route-answer.result
    (record {
      entered = c.enter.ensures.same;
      begins = c.in_ok-guard.ensures.guard.0;
      state = c.state.ensures.state;
      taken = c.take_sender-sender.ensures.same;
      is = c.take_sender-sender.ensures.sender;
      left = c.leave.ensures;
      back = c.put_back.ensures;
    })
    (c.sender-from.ensures ∙ ap (λ n. sender_of c.args.source n) c.connection.ensures)
    (λ m valid. c.seat_recipients-seated.ensures.recipients m (let V : List ℕ → Type 0 = λ b. Valid b m in subst V (sym c.requires) valid))
    c.seat_recipients-seated.ensures.shut c.seat_recipients-seated.ensures.keeps c.seat_recipients-seated.ensures.put c.route-answer.ensures.keeps c.seats.ensures.fits c.route-answer.ensures.ok c.route-answer.ensures.err refl

pub put_back-requires-clause-theirs : goal.put_back-requires-clause-theirs
put_back-requires-clause-theirs g c =
    theirs_sent g.M.Mailbox.outbox_of c.args.self.now c.enter.new.self c.leave.new.self c.in_ok-guard.guard c.state.result.now c.take_sender-sender.result c.seat_recipients-seated.new.sender c.route-answer.new.sender c.enter.ensures.same c.in_ok-guard.ensures.guard.0
    c.state.ensures.history c.state.ensures.state (ap (λ (v : PassState g.row.M.Denot). v.seen) c.leave.ensures) c.take_sender-sender.ensures.theirs c.seat_recipients-seated.ensures.keeps c.route-answer.ensures.keeps
