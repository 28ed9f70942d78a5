use Rattle.std.proofs.Common.{subst}
use Rattle.peers.specs.declared.leaving.Leaving.{Leaving}
use Rattle.peers.specs.Departure.{ClosesPass, HasLeft}
use Rattle.peers.proofs.Departing.{left_done}
use Rattle.peers.proofs.peer.Peer.close.Goals as goal

pub returns-in-Done-clause-leaves : goal.returns-in-Done-clause-leaves
returns-in-Done-clause-leaves g c =
    let closed = c.close_pass-leaving in
    let P : Leaving → Type 0 = λ l. ClosesPass g.M.Mailbox.outbox_of c.args.farewell c.args.self.now l closed.result.1 closed.new.self in
    (closed.new.self, closed.result.1, subst P c.in-Done.is closed.ensures.closes, (c.end_calls-answered.result, c.end_calls-answered.ensures, c.and.ensures))

pub returns-in-Done-clause-closed : goal.returns-in-Done-clause-closed
returns-in-Done-clause-closed g c =
    let closed = c.close_pass-leaving in
    let P : Leaving → Type 0 = λ l. HasLeft l closed.new.self in
    left_done g.M.Mailbox.outbox_of closed.new.self c.end_calls-answered.new.self c.end_calls-answered.result (subst P c.in-Done.is closed.ensures.closed) c.end_calls-answered.ensures
