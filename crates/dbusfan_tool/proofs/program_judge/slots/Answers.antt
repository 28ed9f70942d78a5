use Rattle.std.proofs.Common.{sym, ◌∙◌}
use Rattle.dbusfan_tool.proofs.program_judge.slots.Goals as goal

pub returns-then-owns-clause-owned : goal.returns-then-owns-clause-owned
returns-then-owns-clause-owned c = c.insert.ensures.inserted 0 ∙ sym c.if-owns.true

pub returns-else-owns-clause-owned : goal.returns-else-owns-clause-owned
returns-else-owns-clause-owned c = c.empty-slots.ensures.none 0 ∙ sym c.if-owns.false
