use Rattle.router.specs.History.{after}
use Rattle.peers.specs.Queries.{AreQueuedFor}
use Rattle.peers.proofs.Lists.{answers_none, queue_untold}
use Rattle.peers.proofs.peer.Peer.list_queued_owners.Goals as goal

pub returns-clause-row : goal.returns-clause-row
returns-clause-row g c =
    answers_none g.M.Mailbox.outbox_of c.deref_mut-control.result.now.history (AreQueuedFor c.args.name.now) c.args.request c.in-Err.why c.args.self.now c.queue_named.new.self c.refuse_placed.new.self c.refuse_placed.result c.queue_named.ensures.same c.queue_named.ensures.later
    (queue_untold (after c.queue_named.new.self.pass.seen) c.args.name.now c.in-Err.why c.in-Err.ensures.queue) c.in-Err.ensures.seen c.refuse_placed.ensures.answer
