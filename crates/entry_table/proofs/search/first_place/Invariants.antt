use Rattle.std.proofs.Common.{◌≡◌, length}
use Rattle.std.specs.Prelude.{find}
use Rattle.entry_table.specs.PlacedEntries.{entry_at}
use Rattle.entry_table.specs.Searching.{is_wanted_in}
use Rattle.entry_table.proofs.search.first_place.Given as goal

-- none so far was wanted
abbrev pub invariant-loop-place : goal.invariant-loop-place
invariant-loop-place l =
    find (λ place. is_wanted_in l.wanted l.connection (entry_at place l.slab)) l.places ≡ find (λ place. is_wanted_in l.wanted l.connection (entry_at place l.slab)) l.initial.places

abbrev pub decreases-loop-place : goal.decreases-loop-place
decreases-loop-place l = length l.places
