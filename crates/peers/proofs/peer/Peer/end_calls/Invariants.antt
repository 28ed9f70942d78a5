use Rattle.peers.specs.Calling.{EndsCallsOf}
use Rattle.peers.proofs.peer.Peer.end_calls.Given as goal

abbrev pub invariant-loop-shard : goal.invariant-loop-shard
invariant-loop-shard g l = EndsCallsOf g.M.Mailbox.outbox_of l.number l.shard l.fn.self l.answered l.self
