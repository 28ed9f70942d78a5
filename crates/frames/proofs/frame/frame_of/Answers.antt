use Rattle.std.proofs.Common.{rules}
use Rattle.frames.proofs.Streams.{unfinished_has_none}
use Rattle.frames.proofs.frame.frame_of.Goals as goal

pub returns-then-bytes-len-clause-none : goal.returns-then-bytes-len-clause-none
returns-then-bytes-len-clause-none c = unfinished_has_none c.args.bytes.now (search rules)
