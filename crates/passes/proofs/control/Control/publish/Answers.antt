use Rattle.passes.proofs.Theirs.{turns_next}
use Rattle.passes.proofs.control.Control.publish.Goals as goal

pub invariant_of-self : goal.invariant_of-self
invariant_of-self g c =
    turns_next g.M.Mailbox.outbox_of c.args.pass.now c.publish.new.pass c.self.inside.publisher.value c.publish.new.publisher c.args.command c.publish.result c.self.inside.turns.turns c.requires.stays c.publish.ensures c.self.invariant
