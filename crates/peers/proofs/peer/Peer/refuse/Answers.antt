use Rattle.peers.specs.Answers.{IsPut, IsEither, fault_asked}
use Rattle.bus_messages.specs.declared.error_name.ErrorName.TheVariants.{NoMemory}
use Rattle.peers.proofs.Putting.{built_put, refused_if, not_false}
use Rattle.peers.proofs.peer.Peer.refuse.Goals as goal

pub returns-clause-answer : goal.returns-clause-answer
returns-clause-answer g c =
    let v = c.args.self.now in
    refused_if IsPut c.args.request c.args.why c.in-Error.name v c.put.result c.put.new.self c.in-Error.is (not_false _ c.if-not-request.false)
    (built_put (IsEither (fault_asked v c.args.request c.in-Error.name) (fault_asked v c.args.request NoMemory)) c.in_ok-bytes.bytes v c.fault_bytes.new.self c.put.new.self c.put.result c.fault_bytes.ensures.same c.in_ok-bytes.ensures.built c.put.ensures.put)
