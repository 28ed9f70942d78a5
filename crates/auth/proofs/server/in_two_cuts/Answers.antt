use Rattle.auth.proofs.Talks.{in_cuts}
use Rattle.auth.proofs.server.in_two_cuts.Goals as goal

pub returns : goal.returns
returns c = in_cuts
