use Rattle.std.proofs.Common.{◌≡◌, ◌∙◌, ap, inl}
use Rattle.peers.specs.PeerState.{PeerState}
use Rattle.peers.proofs.Passing.{stamped_by}
use Rattle.peers.proofs.peer.Peer.send_to.Goals as goal

pub returns-in-Ok-clause-outcome : goal.returns-in-Ok-clause-outcome
returns-in-Ok-clause-outcome g c =
    let named : c.self.inside.name ≡ c.args.self.now.pass.connection = c.self.invariant ∙ ap (λ (v : PeerState g.row.M.Denot). v.pass.connection) c.self.view_is in
    inl (c.in-Ok.bytes, stamped_by c.args.view.now c.in-Ok.bytes c.self.inside.name c.args.self.now.pass.connection named c.in-Ok.ensures.stamps, c.send_stamped.ensures.outcome)
