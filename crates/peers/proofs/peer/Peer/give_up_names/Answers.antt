use Rattle.peers.proofs.Departing.{given_last, given_next}
use Rattle.peers.proofs.peer.Peer.give_up_names.Goals as goal

pub returns-in-Last : goal.returns-in-Last
returns-in-Last g c =
    let made = c.give_up_name-giving in
    given_last g.M.Mailbox.outbox_of c.loop-count.count c.args.self.now c.loop-count.self made.new.self made.result.0 c.loop-count.announced made.result.1 c.and-announced.result c.in-Last.is c.loop-count.invariant made.ensures c.and-announced.ensures

pub loop-count-preserved : goal.loop-count-preserved
loop-count-preserved g c =
    let made = c.give_up_name-giving in
    given_next g.M.Mailbox.outbox_of c.loop-count.count c.args.self.now c.loop-count.self made.new.self made.result.0 c.loop-count.announced made.result.1 c.and-announced.result c.in-Further.is c.loop-count.invariant made.ensures c.and-announced.ensures
