use Rattle.std.proofs.Common.{◌≡◌, ◌∙◌, Some, ap, subst}
use Rattle.std.specs.Prelude.{codes}
use Rattle.router.specs.Publication.{Publication}
use Rattle.router.specs.Standing.TheVariants as standings
use Rattle.unique_name.specs.UniqueNames.{unique_name}
use Rattle.peers.specs.Announcements.{TellsOwner}
use Rattle.peers.specs.PeerState.{PeerState}
use Rattle.peers.proofs.Announcing.{arrived}
use Rattle.peers.proofs.peer.Peer.announce_arrival.Goals as goal

pub returns-clause-announced : goal.returns-clause-announced
returns-clause-announced g c =
    let outbox_of = g.M.Mailbox.outbox_of in
    let changed = c.tell_changed-changed in
    let acquired = c.tell_new_owner-acquired in
    let number : c.connection-number.result ≡ c.args.self.now.pass.connection = c.connection-number.ensures ∙ ap (λ (v : PeerState g.row.M.Denot). v.pass.connection) c.self.view_is in
    let T : Publication g.row.M.Denot → Type 0 = λ p. TellsOwner standings.Last outbox_of p.history (codes "NameAcquired") c.as_str-2.result.now (Some c.connection-number.result) changed.new.self acquired.result acquired.new.self in
    arrived outbox_of c.args.control.now.history c.connection-number.result c.as_str.result.now c.as_str-2.result.now c.args.self.now changed.new.self acquired.new.self changed.result acquired.result c.and.result number
    (c.as_str.ensures.text ∙ ap unique_name c.new-name.ensures) (c.as_str-2.ensures.text ∙ ap unique_name c.new-name.ensures) changed.ensures.signalled (subst T changed.ensures.control acquired.ensures.told) c.and.ensures
