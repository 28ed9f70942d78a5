use Rattle.std.proofs.Common.{refl}
use Rattle.summary.proofs.SlotBits.{none_there, zeros_set}
use Rattle.summary.proofs.slots.Slots.empty.Goals as goal

pub invariant_of-result : goal.invariant_of-result
invariant_of-result c = zeros_set _ refl

pub returns-clause-none : goal.returns-clause-none
returns-clause-none c = λ slot. none_there _ 32 slot refl

pub returns-clause-set : goal.returns-clause-set
returns-clause-set c = zeros_set _ refl
