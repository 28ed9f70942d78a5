use Rattle.passes.proofs.NameOwners.{has_number}
use Rattle.passes.proofs.names.named_in.Goals as goal

pub returns-then-names : goal.returns-then-names
returns-then-names g c = (c.names.ensures.0 c.if-names.true, has_number c.args.connections.now c.loop-connection.connection-index c.connection-item.result c.loop-connection-test.true c.connection-item.is)
