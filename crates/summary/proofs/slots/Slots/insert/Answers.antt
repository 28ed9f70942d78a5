use Rattle.std.proofs.Common.{arith}
use Rattle.summary.proofs.SlotBits.{one_more}
use Rattle.summary.proofs.slots.Slots.insert.Goals as goal

pub returns-clause-inserted : goal.returns-clause-inserted
returns-clause-inserted c = λ other. rw (← c.self.view_is) (one_more c.self.inside.words c.args.slot other (search arith))
