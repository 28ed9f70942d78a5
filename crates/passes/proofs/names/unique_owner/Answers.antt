use Rattle.passes.proofs.NameOwners.{named_owner}
use Rattle.passes.proofs.names.unique_owner.Goals as goal

pub returns-2 : goal.returns-2
returns-2 g c = named_owner c.args.name.now c.args.state.now.connections c.connections.result.now c.named_in.result c.connections.ensures c.named_in.ensures
