use Rattle.peers.proofs.Departing.{last_given, name_given}
use Rattle.peers.proofs.peer.Peer.give_up_name.Goals as goal

pub returns-then-claims_nothing : goal.returns-then-claims_nothing
returns-then-claims_nothing g c = last_given g.M.Mailbox.outbox_of _ c.args.self.now c.claims_nothing.new.pass c.deref.result.now c.self.view_is c.if-claims_nothing.ensures

pub returns : goal.returns
returns g c =
    let made = c.change_owner-dropped in
    name_given g.M.Mailbox.outbox_of _ c.args.self.now c.claims_nothing.new.pass made.new.self c.deref.result.now _ made.new.control made.result.0 made.result.1 c.giving_of.result c.self.view_is c.if-claims_nothing.ensures made.ensures.changes c.giving_of.ensures
