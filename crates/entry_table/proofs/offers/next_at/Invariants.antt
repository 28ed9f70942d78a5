use Rattle.std.proofs.Common.{◌≡◌, length}
use Rattle.entry_table.specs.FoundTexts.{offered_at}
use Rattle.entry_table.proofs.offers.next_at.Given as goal

-- none was offered so far
abbrev pub invariant-loop-place : goal.invariant-loop-place
invariant-loop-place l = offered_at l.slab l.found.texts l.shape l.places ≡ offered_at l.slab l.found.texts l.shape l.initial.places

abbrev pub decreases-loop-place : goal.decreases-loop-place
decreases-loop-place l = length l.places
