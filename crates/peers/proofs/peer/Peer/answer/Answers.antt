use Rattle.bus_messages.specs.declared.error_name.ErrorName.TheVariants.{NoMemory}
use Rattle.peers.specs.Answers.{IsPut, IsEither, fault_asked, reply_with}
use Rattle.peers.specs.PeerState.{name_of}
use Rattle.peers.proofs.Putting.{built_put, answered_if, not_false}
use Rattle.peers.proofs.peer.Peer.answer.Goals as goal

pub returns-clause-answer : goal.returns-clause-answer
returns-clause-answer g c =
    let v = c.args.self.now in
    let asked = reply_with v.serial (name_of v) c.args.request c.args.body in
    answered_if IsPut c.args.request asked v c.put.result c.put.new.self (not_false _ c.if-not-request.false)
    (built_put (IsEither asked (fault_asked v c.args.request NoMemory)) c.in_ok-bytes.bytes v c.reply_bytes.new.self c.put.new.self c.put.result c.reply_bytes.ensures.same c.in_ok-bytes.ensures.built c.put.ensures.put)
