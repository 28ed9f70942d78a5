use Rattle.std.proofs.Common.{◌≡◌, sym, ap, ◌∙◌, true≢false}
use Rattle.unique_name.specs.UniqueNames.{unique_name}
use Rattle.peers.specs.PeerState.{PeerState, name_of}
use Rattle.peers.proofs.StampedTexts.{stamped_for_nobody}
use Rattle.peers.proofs.peer.Peer.is_for_nobody.Goals as goal
use Rattle.peers.proofs.peer.Peer.is_for_nobody.Goals.{in-Ok, in-Err}

pub returns-clause-nobody : goal.returns-clause-nobody
returns-clause-nobody g c =
    let named : c.as_str.result.now ≡ name_of c.args.self.now = c.as_str.ensures.text ∙ ap unique_name (c.self.invariant ∙ ap (λ (v : PeerState g.row.M.Denot). v.pass.connection) c.self.view_is) in
    elim c.match-may_reach.branch [
      | in-Ok w ↦ (λ e m valid. stamped_for_nobody _ m w.in-Ok.may_reach _ c.as_str.result.now _ named (sym w.result-is ∙ e) (w.in-Ok.ensures.found.1 m valid))
      | in-Err w ↦ (λ e m valid. absurd (true≢false (sym e ∙ w.result-is)))
    ]
