use Rattle.peers.specs.Departure.{GivesUpNames}
use Rattle.peers.proofs.peer.Peer.give_up_names.Given as goal

abbrev pub invariant-loop-count : goal.invariant-loop-count
invariant-loop-count g l = GivesUpNames g.M.Mailbox.outbox_of l.count l.fn.self l.announced l.self
