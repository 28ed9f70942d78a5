use Rattle.peers.proofs.peer.Peer.go_under.Goals as goal

pub returns-clause-gone : goal.returns-clause-gone
returns-clause-gone g c = (c.depart-leaving.result.0, c.depart-leaving.result.1, c.depart-leaving.ensures.leaves, c.depart-leaving.ensures.closed, c.outcome_of.ensures)
