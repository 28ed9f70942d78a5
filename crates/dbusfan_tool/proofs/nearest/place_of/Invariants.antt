use Rattle.std.proofs.Common.{◌≡◌, ◌+◌, drop}
use Rattle.dbusfan_tool.specs.Places.{place_of}
use Rattle.dbusfan_tool.proofs.nearest.place_of.Given as goal

-- none in front has more reasons
abbrev pub invariant-loop-place : goal.invariant-loop-place
invariant-loop-place l = place_of l.misses l.nearest ≡ l.place + place_of l.misses (drop l.place l.nearest)
