use Rattle.peers.proofs.Putting.{no_memory_placed}
use Rattle.peers.proofs.peer.Peer.answer_names.Goals as goal

pub returns-in-Err-clause-row : goal.returns-in-Err-clause-row
returns-in-Err-clause-row g c = no_memory_placed g.M.Mailbox.outbox_of c.args.control.now.history c.args.request _ c.args.self.now c.refuse_placed.result c.refuse_placed.new.self c.refuse_placed.ensures.answer
