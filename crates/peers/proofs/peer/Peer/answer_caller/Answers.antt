use Rattle.std.proofs.Common.{◌∙◌, ap}
use Rattle.peers.specs.PeerState.{PeerState}
use Rattle.peers.proofs.Calling.{answered}
use Rattle.peers.proofs.Putting.{used_serial}
use Rattle.peers.proofs.peer.Peer.answer_caller.Goals as goal

pub returns : goal.returns
returns g c =
    answered g.M.Mailbox.outbox_of c.args.call.caller c.new-to.result c.take-serial.result c.args.call.serial c.as_str.result.now c.args.self.now _ c.tell.new.self c.error-built_message.result c.tell.result
    (used_serial _ _ _ _ _ _ c.args.self.now c.self.view_is c.take-serial.ensures.used)
    (c.take-serial.ensures.next ∙ ap (λ (v : PeerState g.row.M.Denot). v.serial) c.self.view_is) c.new-to.ensures c.as_str.ensures.text c.error-built_message.ensures c.tell.ensures.pass c.tell.ensures.same
