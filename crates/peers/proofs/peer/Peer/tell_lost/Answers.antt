use Rattle.std.proofs.Common.{◌∙◌, ap}
use Rattle.peers.specs.PeerState.{PeerState}
use Rattle.peers.proofs.Announcing.{has_told}
use Rattle.peers.proofs.Putting.{used_serial}
use Rattle.peers.proofs.peer.Peer.tell_lost.Goals as goal

pub returns-clause-told : goal.returns-clause-told
returns-clause-told g c =
    has_told c.args.at g.M.Mailbox.outbox_of c.args.control.now.history _ c.args.name.now c.args.old c.new-to.result c.take-serial.result c.as_str.result.now c.args.self.now _ c.tell_named.new.self c.name_lost-built_message.result c.tell_named.result
    (used_serial _ _ _ _ _ _ c.args.self.now c.self.view_is c.take-serial.ensures.used)
    (c.take-serial.ensures.next ∙ ap (λ (v : PeerState g.row.M.Denot). v.serial) c.self.view_is) c.new-to.ensures c.as_str.ensures.text c.name_lost-built_message.ensures c.tell_named.ensures.pass c.tell_named.ensures.same c.tell_named.ensures.seen
