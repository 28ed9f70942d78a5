use Rattle.std.proofs.Common.{sym}
use Rattle.peers.proofs.Calling.{ends_all, ends_later}
use Rattle.peers.proofs.peer.Peer.end_calls_to.Goals as goal

pub calls-smaller : goal.calls-smaller
calls-smaller g c = c.in-Some.ensures.fewer

pub calls-preserved : goal.calls-preserved
calls-preserved g c = λ later left w h.
    let told = c.answer_caller-told in
    ends_later g.M.Mailbox.outbox_of c.args.callee c.in-Some.call _ c.take_call_to.new.self.calls _ left _ c.calls.self told.new.self w c.calls.answered told.result c.and-answered.result later c.calls.invariant (sym c.in-Some.ensures.call) c.in-Some.ensures.rest told.ensures c.and-answered.ensures h

pub returns : goal.returns
returns g c =
    ends_all g.M.Mailbox.outbox_of c.args.callee c.take_call_to.result _ _ c.take_call_to.new.self.calls _ c.calls.self c.calls.answered c.calls.invariant c.take_call_to.ensures.call c.in_default.is c.take_call_to.ensures.rest
