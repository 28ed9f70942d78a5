use Rattle.frames.proofs.Streams.{given_first}
use Rattle.frames.proofs.laws.given_come_first.Goals as goal

pub returns : goal.returns
returns c = given_first
