use Rattle.sessions.proofs.Runs.{runs_in_order}
use Rattle.sessions.proofs.laws.handled_in_order.Goals as goal

pub returns : goal.returns
returns g c = runs_in_order g.M.Mailbox.outbox_of
