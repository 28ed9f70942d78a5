use Rattle.owners.specs.Kept.{IsFreeFrom}
use Rattle.owners.proofs.holdings.least_mark.Given as goal

abbrev pub invariant-loop-used : goal.invariant-loop-used
invariant-loop-used l = IsFreeFrom l.used l.slots

abbrev pub decreases-loop-used : goal.decreases-loop-used
decreases-loop-used l = l.used
