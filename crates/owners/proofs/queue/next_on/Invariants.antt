use Rattle.std.proofs.Common.{◌≡◌, length}
use Rattle.owners.specs.Kept.{slot_queue}
use Rattle.owners.proofs.queue.next_on.Given as goal

abbrev pub invariant-loop-first : goal.invariant-loop-first
invariant-loop-first l = slot_queue l.slot l.rest ≡ slot_queue l.slot l.claims

abbrev pub decreases-loop-first : goal.decreases-loop-first
decreases-loop-first l = length l.rest
