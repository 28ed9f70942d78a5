use Rattle.published.proofs.Views.{begins}
use Rattle.published.proofs.publisher.Publisher.new.Goals as goal

pub new-requires-3-clause-rule : goal.new-requires-3-clause-rule
new-requires-3-clause-rule g c = begins _
