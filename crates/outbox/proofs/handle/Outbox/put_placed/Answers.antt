use Rattle.std.proofs.Common.{rules}
use Rattle.outbox.proofs.Words.{reads}
use Rattle.outbox.proofs.handle.Outbox.put_placed.Goals as goal

pub load-requires : goal.load-requires
load-requires g c = (search rules, search rules, reads _ _ _)
