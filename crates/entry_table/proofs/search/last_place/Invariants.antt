use Rattle.std.proofs.Common.{◌≡◌, length}
use Rattle.entry_table.specs.PlacedEntries.{entry_at}
use Rattle.entry_table.specs.Searching.{is_wanted_in, last_place, or_place}
use Rattle.entry_table.proofs.search.last_place.Given as goal

-- what is still to come goes before what was found
abbrev pub invariant-loop-place : goal.invariant-loop-place
invariant-loop-place l =
    or_place (last_place (λ place. is_wanted_in l.wanted l.connection (entry_at place l.slab)) l.places) l.last ≡ last_place (λ place. is_wanted_in l.wanted l.connection (entry_at place l.slab)) l.initial.places

abbrev pub decreases-loop-place : goal.decreases-loop-place
decreases-loop-place l = length l.places
