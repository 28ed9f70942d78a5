use Rattle.fan_out.proofs.Places.{none_marked}
use Rattle.fan_out.proofs.marks.Marks.new.Goals as goal

pub invariant_of-result-clause-in_rows : goal.invariant_of-result-clause-in_rows
invariant_of-result-clause-in_rows c k marked = absurd (none_marked 4096 k marked)

pub invariant_of-result-clause-within : goal.invariant_of-result-clause-within
invariant_of-result-clause-within c k marked = absurd (none_marked 4096 k marked)
