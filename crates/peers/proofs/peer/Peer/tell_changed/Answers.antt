use Rattle.std.proofs.Common.{◌≡◌, ◌∷◌, [], ℕ, List, None, ap, subst, ◌∙◌}
use Rattle.std.specs.Prelude.{codes}
use Rattle.message_build.specs.Building.{AreAsked}
use Rattle.bus_messages.specs.Sent.{signal_asked}
use Rattle.peers.specs.Announcements.{owner_text}
use Rattle.peers.specs.PeerState.{PeerState}
use Rattle.peers.proofs.Announcing.{change_built, has_signalled}
use Rattle.peers.proofs.Putting.{used_serial}
use Rattle.peers.proofs.peer.Peer.tell_changed.Goals as goal

pub returns-clause-signalled : goal.returns-clause-signalled
returns-clause-signalled g c =
    let v : PeerState g.row.M.Denot = c.args.self.now in
    let B : ℕ → List ℕ → List ℕ → Type 0 = λ k x y. AreAsked (signal_asked k None (codes "NameOwnerChanged") (c.args.name.now ∷ x ∷ y ∷ [])) c.in-Ok.bytes in
    let serial : c.take-serial.result ≡ v.serial = c.take-serial.ensures.next ∙ ap (λ (v : PeerState g.row.M.Denot). v.serial) c.self.view_is in
    let old : c.text_of.result.now ≡ owner_text c.args.old = c.text_of.ensures ∙ ap owner_text c.unique_name_of-old.ensures in
    let new : c.text_of-2.result.now ≡ owner_text c.args.new = c.text_of-2.ensures ∙ ap owner_text c.unique_name_of-new.ensures in
    let built : B v.serial (owner_text c.args.old) (owner_text c.args.new) = subst (λ y. B v.serial (owner_text c.args.old) y) new (subst (λ x. B v.serial x c.text_of-2.result.now) old (subst (λ k. B k c.text_of.result.now c.text_of-2.result.now) serial c.in-Ok.ensures)) in
    has_signalled c.args.at g.M.Mailbox.outbox_of c.args.control.now.history _ c.in-Ok.bytes v _ c.signal.new.self c.signal.result _ _ (used_serial _ _ _ _ _ _ v c.self.view_is c.take-serial.ensures.used)
    (change_built v.serial c.args.name.now c.args.old c.args.new c.in-Ok.bytes built) c.signal.ensures.error c.signal.ensures.routed c.signal.ensures.same c.signal.ensures.seen
