use Rattle.filter.specs.Filters.{tree_of}
use Rattle.peers.proofs.Attaching.{with_program}
use Rattle.peers.proofs.peer.Peer.attach_tree.Goals as goal

pub returns-in-Ok-None-clause-row : goal.returns-in-Ok-None-clause-row
returns-in-Ok-None-clause-row g c =
    with_program c.args.context.now.shares c.args.request (tree_of c.args.filter.now) c.in-Ok.program.len c.in-Ok.program.items c.in-Ok-asked_by.asked c.in-Ok-None.field-0 c.args.self.now c.attach.new.self c.attach.result c.in-Ok.program.ok.0 c.in-Ok-None.field-0-is
    c.in-Ok-None.ensures c.in-Ok.ensures c.in-Ok-asked_by.ensures c.attach.ensures.row
