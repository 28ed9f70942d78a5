use Rattle.bus_messages.specs.FilterFaults.{filter_fault_text}
use Rattle.bus_messages.specs.declared.error_name.ErrorName.TheVariants.{NoMemory}
use Rattle.peers.specs.Answers.{IsEither, IsPut, fault_asked}
use Rattle.peers.specs.Attachments.{bad_filter_with}
use Rattle.peers.specs.PeerState.{name_of}
use Rattle.peers.proofs.Putting.{answered_if, built_put, not_false}
use Rattle.peers.proofs.peer.Peer.refuse_filter.Goals as goal

pub returns-clause-answer : goal.returns-clause-answer
returns-clause-answer g c =
    let v = c.args.self.now in
    let asked = bad_filter_with v.serial (name_of v) c.args.request (filter_fault_text c.args.fault) in
    answered_if IsPut c.args.request asked v c.put.result c.put.new.self (not_false _ c.if-not-request.false)
    (built_put (IsEither asked (fault_asked v c.args.request NoMemory)) c.in_ok-bytes.bytes v c.bad_filter_bytes.new.self c.put.new.self c.put.result c.bad_filter_bytes.ensures.same c.in_ok-bytes.ensures.built c.put.ensures.put)
