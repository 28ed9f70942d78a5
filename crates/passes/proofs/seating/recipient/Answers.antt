use Rattle.passes.proofs.Finding.{has_mailbox}
use Rattle.passes.proofs.seating.recipient.Goals as goal

pub unreachable-requires : goal.unreachable-requires
unreachable-requires g c = has_mailbox c.args.number c.args.state.now.connections c.requires c.in-None.ensures
