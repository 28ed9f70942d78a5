use Rattle.bus_messages.specs.declared.error_name.ErrorName.TheVariants.{NoMemory}
use Rattle.router.specs.Standing.TheVariants as standings
use Rattle.peers.specs.Answers.{IsPutAt, IsEither, fault_asked}
use Rattle.peers.proofs.Putting.{built_placed, refused_if, not_false}
use Rattle.peers.proofs.peer.Peer.refuse_placed.Goals as goal

pub returns-clause-answer : goal.returns-clause-answer
returns-clause-answer g c =
    let v = c.args.self.now in
    let history = c.args.control.now.history in
    let outbox_of = g.M.Mailbox.outbox_of in
    refused_if (IsPutAt standings.State outbox_of history) c.args.request c.args.why c.in-Error.fault v c.put_placed.result c.put_placed.new.self c.in-Error.is (not_false _ c.if-not-request.false)
    (built_placed standings.State outbox_of history (IsEither (fault_asked v c.args.request c.in-Error.fault) (fault_asked v c.args.request NoMemory)) c.in_ok-bytes.bytes v c.fault_bytes.new.self c.put_placed.new.self c.put_placed.result c.fault_bytes.ensures.same c.in_ok-bytes.ensures.built c.put_placed.ensures.put)
