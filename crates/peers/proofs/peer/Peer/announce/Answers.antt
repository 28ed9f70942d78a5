use Rattle.std.proofs.Common.{◌∙◌, subst}
use Rattle.std.specs.Prelude.{codes}
use Rattle.router.specs.Publication.{Publication}
use Rattle.router.specs.Standing.TheVariants as standings
use Rattle.peers.specs.Announcements.{HasSignalled, TellsOwner, change_asked}
use Rattle.peers.proofs.Announcing.{announced}
use Rattle.peers.proofs.peer.Peer.announce.Goals as goal

pub returns-clause-announced : goal.returns-clause-announced
returns-clause-announced g c =
    let outbox_of = g.M.Mailbox.outbox_of in
    let lost = c.tell_old_owner-lost in
    let changed = c.tell_changed-changed in
    let acquired = c.tell_new_owner-acquired in
    let name = c.as_str-name.result.now in
    let change = c.args.change.now in
    let S : Publication g.row.M.Denot → Type 0 = λ p. HasSignalled standings.Next outbox_of p.history (change_asked lost.new.self.serial name change.old change.new) lost.new.self changed.result changed.new.self in
    let T : Publication g.row.M.Denot → Type 0 = λ p. TellsOwner standings.Next outbox_of p.history (codes "NameAcquired") name change.new changed.new.self acquired.result acquired.new.self in
    announced outbox_of c.args.control.now.history change name c.args.self.now lost.new.self changed.new.self acquired.new.self lost.result changed.result acquired.result c.and.result c.and-2.result
    c.as_str-name.ensures lost.ensures.told (subst S lost.ensures.control changed.ensures.signalled) (subst T (changed.ensures.control ∙ lost.ensures.control) acquired.ensures.told) c.and.ensures c.and-2.ensures
