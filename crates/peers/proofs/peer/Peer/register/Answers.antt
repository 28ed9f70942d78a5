use Rattle.std.proofs.Common.{◌∙◌, ap, subst}
use Rattle.router.specs.Passes.{PassState}
use Rattle.router.specs.Publication.{Publication}
use Rattle.peers.specs.Announcements.{AnnouncesArrival}
use Rattle.peers.specs.HeldLists.{holdings_of}
use Rattle.peers.proofs.Announcing.{registered}
use Rattle.peers.proofs.peer.Peer.register.Goals as goal

pub returns-clause-registered : goal.returns-clause-registered
returns-clause-registered g c =
    let outbox_of = g.M.Mailbox.outbox_of in
    let answered = c.answer_hello-answered in
    let announced = c.announce_arrival-announced in
    let held = ap (λ (p : PassState g.row.M.Denot). record { pass = p; own = c.self.inside.own; serial = c.self.inside.serials; identity = c.self.inside.identity; holdings = holdings_of c.self.inside.holdings }) c.hold.ensures ∙ c.self.view_is in
    let released = ap (λ (p : PassState g.row.M.Denot). record { pass = p; own = c.self-2.inside.own; serial = c.self-2.inside.serials; identity = c.self-2.inside.identity; holdings = holdings_of c.self-2.inside.holdings }) c.release.ensures ∙ c.self-2.view_is in
    let A : Publication g.row.M.Denot → Type 0 = λ p. AnnouncesArrival outbox_of p.history answered.new.self announced.result announced.new.self in
    registered outbox_of c.args.control.now.history c.args.request c.args.self.now _ answered.new.self announced.new.self _ answered.result announced.result c.and.result
    held answered.ensures.answer (subst A answered.ensures.control announced.ensures.announced) released c.and.ensures
