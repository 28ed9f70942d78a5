use Rattle.std.proofs.Common.{◌≡◌, ◌∙◌, ℕ, List, inr, refl, sym, subst}
use Rattle.router.specs.NameCall.TheVariants as calls
use Rattle.peers.specs.HeldLists.{holdings_of}
use Rattle.peers.specs.Holdings.{after_release}
use Rattle.peers.specs.NameRows.{ChangesName}
use Rattle.peers.specs.OwnerChanges.{ChangesOwner}
use Rattle.peers.specs.PeerState.{PeerState}
use Rattle.peers.proofs.AskedNames.{name_read}
use Rattle.peers.proofs.OwnerChanging.{changed}
use Rattle.peers.proofs.peer.Peer.release_name.Goals as goal

pub returns-clause-row : goal.returns-clause-row
returns-clause-row g c =
    let name : c.in-Ok.name ≡ c.args.name.now = (name_read c.args.name.now c.in-Ok.name (sym c.read.ensures ∙ c.in-Ok.is)).0 in
    let v : PeerState g.row.M.Denot = c.args.self.now in
    let made = c.change_owner-asked in
    let C : List ℕ → Type 0 = λ n. ChangesName g.M.Mailbox.outbox_of c.args.request (calls.Release n) (after_release n) v c.and.result c.answer_named-answered.new.self in
    let P : PeerState g.row.M.Denot → Type 0 = λ s. ChangesOwner g.M.Mailbox.outbox_of (calls.Release c.in-Ok.name) v c.deref_mut-control.result.now made.result.0 made.result.1 s made.new.control in
    let N : List ℕ → Type 0 = λ n. ChangesOwner g.M.Mailbox.outbox_of (calls.Release n) v c.deref_mut-control.result.now made.result.0 made.result.1 made.new.self made.new.control in
    inr (subst C name (changed g.M.Mailbox.outbox_of c.args.request (calls.Release c.in-Ok.name) (after_release c.in-Ok.name) v v _ c.answer_named-answered.new.self c.deref_mut-control.result.now made.new.control made.result.0 (holdings_of c.note_release.new.self) made.result.1
    c.answer_named-answered.result c.and.result refl (subst P (sym c.self.view_is) (subst N c.copy.ensures made.ensures.changes)) c.note_release.ensures c.answer_named-answered.ensures.row c.and.ensures))
