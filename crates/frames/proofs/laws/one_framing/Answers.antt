use Rattle.frames.proofs.Streams.{one_framing_lem}
use Rattle.frames.proofs.laws.one_framing.Goals as goal

pub returns : goal.returns
returns c = one_framing_lem
