use Rattle.std.proofs.Common.{◌≡◌, ap, ◌∙◌}
use Rattle.bus_messages.specs.FilterFaults.{filter_fault_text}
use Rattle.unique_name.specs.UniqueNames.{unique_name}
use Rattle.peers.specs.Attachments.{bad_filter_with}
use Rattle.peers.specs.PeerState.{PeerState, name_of}
use Rattle.peers.proofs.Attaching.{fault_said}
use Rattle.peers.proofs.Putting.{fault_built}
use Rattle.peers.proofs.peer.Peer.bad_filter_bytes.Goals as goal

pub returns-in-Ok-clause-built : goal.returns-in-Ok-clause-built
returns-in-Ok-clause-built g c =
    let v : PeerState g.row.M.Denot = c.args.self.now in
    let named : c.as_str.result.now ≡ name_of v = c.as_str.ensures.text ∙ ap unique_name (c.self.invariant ∙ ap (λ (v : PeerState g.row.M.Denot). v.pass.connection) c.self.view_is) in
    let serial : c.take-serial.result ≡ v.serial = c.take-serial.ensures.next ∙ ap (λ (v : PeerState g.row.M.Denot). v.serial) c.self.view_is in
    fault_said c.args.request (filter_fault_text c.args.fault) v c.take-serial.result c.as_str.result.now c.in-Ok.bytes serial named c.in-Ok.ensures

pub returns-clause-built : goal.returns-clause-built
returns-clause-built g c =
    let v : PeerState g.row.M.Denot = c.args.self.now in
    let named : c.as_str.result.now ≡ name_of v = c.as_str.ensures.text ∙ ap unique_name (c.self.invariant ∙ ap (λ (v : PeerState g.row.M.Denot). v.pass.connection) c.self.view_is) in
    let serial : c.take-serial.result ≡ v.serial = c.take-serial.ensures.next ∙ ap (λ (v : PeerState g.row.M.Denot). v.serial) c.self.view_is in
    fault_built c.args.request (bad_filter_with v.serial (name_of v) c.args.request (filter_fault_text c.args.fault)) v c.take-serial.result c.as_str.result.now c.error_bytes.result serial named c.error_bytes.ensures.built
