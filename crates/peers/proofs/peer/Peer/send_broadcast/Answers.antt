use Rattle.std.proofs.Common.{◌≡◌, ◌∙◌, Err, refl, ap, subst, inl, inr}
use Rattle.message_view.specs.Message.{Message}
use Rattle.message_view.specs.Valid.{Valid}
use Rattle.message_build.specs.Stamped.{Stamps}
use Rattle.message_build.specs.declared.stamping.StampError.{StampError}
use Rattle.unique_name.specs.UniqueNames.{unique_name}
use Rattle.peers.specs.PeerState.{PeerState}
use Rattle.peers.proofs.Passing.{broadcast_done, over_by, seen_connection, stamped_by}
use Rattle.peers.proofs.peer.Peer.send_broadcast.Goals as goal

pub returns-in-Ok : goal.returns-in-Ok
returns-in-Ok g c =
    let v : PeerState g.row.M.Denot = c.args.self.now in
    let u : PeerState g.row.M.Denot = c.reaches_nobody.new.self in
    let named : c.self.inside.name ≡ v.pass.connection = c.self.invariant ∙ ap (λ (v : PeerState g.row.M.Denot). v.pass.connection) c.self.view_is ∙ seen_connection v.pass u.pass c.reaches_nobody.ensures.later in
    broadcast_done g.M.Mailbox.outbox_of c.args.view.now c.in-Ok.bytes v u c.broadcast.new.self c.broadcast.result _ _ c.reaches_nobody.ensures.same c.reaches_nobody.ensures.later
    (stamped_by c.args.view.now c.in-Ok.bytes c.self.inside.name v.pass.connection named c.in-Ok.ensures.stamps) c.broadcast.ensures.error c.broadcast.ensures.routed c.broadcast.ensures.same

pub returns-in-Err-NoMemory : goal.returns-in-Err-NoMemory
returns-in-Err-NoMemory g c = (refl, c.reaches_nobody.ensures.same, c.reaches_nobody.new.self.pass, c.reaches_nobody.ensures.later, inl refl)

pub returns-in-Err-TooLarge : goal.returns-in-Err-TooLarge
returns-in-Err-TooLarge g c =
    let v : PeerState g.row.M.Denot = c.args.self.now in
    let u : PeerState g.row.M.Denot = c.reaches_nobody.new.self in
    let named : c.self.inside.name ≡ v.pass.connection = c.self.invariant ∙ ap (λ (v : PeerState g.row.M.Denot). v.pass.connection) c.self.view_is ∙ seen_connection v.pass u.pass c.reaches_nobody.ensures.later in
    let S : StampError → Type 0 = λ e. (m : Message) → Valid c.args.view.now m → Stamps m (unique_name c.self.inside.name) (Err e) in
    (c.reaches_nobody.ensures.same, inl (c.reaches_nobody.ensures.later, inr (over_by c.args.view.now c.self.inside.name v.pass.connection named (subst S c.in-Err-TooLarge.field-0-is c.in-Err-TooLarge.ensures.stamps))))
