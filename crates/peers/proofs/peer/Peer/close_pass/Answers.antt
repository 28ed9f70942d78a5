use Rattle.peers.proofs.Departing.{closed, has_left}
use Rattle.peers.proofs.peer.Peer.close_pass.Goals as goal

pub returns-clause-closes : goal.returns-clause-closes
returns-clause-closes g c =
    closed g.M.Mailbox.outbox_of c.args.farewell c.args.self.now c.bid_farewell-lost.new.self _ c.announce_closed.new.self c.deref_mut-control.result.now c.bid_farewell-lost.new.control c.close-closed.new.self c.bid_farewell-lost.result c.close-closed.result c.close-closed.new.pass c.announce_closed.result.0 c.announce_closed.result.1 c.self.view_is c.bid_farewell-lost.ensures.control c.bid_farewell-lost.ensures.told c.close-closed.ensures.answer c.announce_closed.ensures

pub returns-clause-closed : goal.returns-clause-closed
returns-clause-closed g c =
    has_left g.M.Mailbox.outbox_of _ c.announce_closed.new.self c.bid_farewell-lost.new.control c.close-closed.new.self c.close-closed.result c.close-closed.new.pass c.bid_farewell-lost.result c.announce_closed.result.0 c.announce_closed.result.1 c.close-closed.ensures.answer c.close-closed.ensures.shut c.announce_closed.ensures
