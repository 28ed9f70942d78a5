use Rattle.std.proofs.Common.{◌≡◌, length}
use Rattle.entry_table.specs.FoundTexts.{coming}
use Rattle.entry_table.specs.Lookups.{lookups_after}
use Rattle.entry_table.proofs.offers.next_offered.Given as goal

-- none was offered so far
abbrev pub invariant-lookups : goal.invariant-lookups
invariant-lookups l = coming l.slab l.by_texts l.found l.at ≡ coming l.slab l.by_texts l.initial.found l.initial.at

abbrev pub decreases-lookups : goal.decreases-lookups
decreases-lookups l = length (lookups_after l.at.shape l.found.texts l.at.shapes)
