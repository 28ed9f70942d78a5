use Rattle.bus_messages.specs.declared.error_name.ErrorName.TheVariants.{NoMemory}
use Rattle.router.specs.Standing.TheVariants as standings
use Rattle.peers.specs.Answers.{IsPutAt, IsEither, fault_asked, reply_with}
use Rattle.peers.specs.PeerState.{name_of}
use Rattle.peers.proofs.Putting.{built_placed, answered_if, not_false}
use Rattle.peers.proofs.peer.Peer.answer_placed.Goals as goal

pub returns-clause-answer : goal.returns-clause-answer
returns-clause-answer g c =
    let v = c.args.self.now in
    let history = c.args.control.now.history in
    let outbox_of = g.M.Mailbox.outbox_of in
    let asked = reply_with v.serial (name_of v) c.args.request c.args.told in
    answered_if (IsPutAt standings.State outbox_of history) c.args.request asked v c.put_placed.result c.put_placed.new.self (not_false _ c.if-not-request.false)
    (built_placed standings.State outbox_of history (IsEither asked (fault_asked v c.args.request NoMemory)) c.in_ok-bytes.bytes v c.reply_bytes.new.self c.put_placed.new.self c.put_placed.result c.reply_bytes.ensures.same c.in_ok-bytes.ensures.built c.put_placed.ensures.put)
