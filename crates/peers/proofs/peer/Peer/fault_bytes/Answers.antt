use Rattle.std.proofs.Common.{◌≡◌, ap, ◌∙◌}
use Rattle.unique_name.specs.UniqueNames.{unique_name}
use Rattle.peers.specs.PeerState.{PeerState, name_of}
use Rattle.peers.proofs.Putting.{faults_are}
use Rattle.peers.proofs.peer.Peer.fault_bytes.Goals as goal

pub returns-clause-built : goal.returns-clause-built
returns-clause-built g c =
    let v : PeerState g.row.M.Denot = c.args.self.now in
    let named : c.as_str.result.now ≡ name_of v = c.as_str.ensures.text ∙ ap unique_name (c.self.invariant ∙ ap (λ (v : PeerState g.row.M.Denot). v.pass.connection) c.self.view_is) in
    let serial : c.take-serial.result ≡ v.serial = c.take-serial.ensures.next ∙ ap (λ (v : PeerState g.row.M.Denot). v.serial) c.self.view_is in
    faults_are c.args.request c.args.name v c.take-serial.result c.as_str.result.now c.error_bytes.result serial named c.error_bytes.ensures.built
