use Rattle.std.proofs.Common.{◌≡◌, drop}
use Rattle.jump_islands.specs.Draft.{instructions_from}
use Rattle.jump_islands.proofs.draft.Draft.source.Given as goal

-- the lines from the place on are put
abbrev pub invariant-loop-place : goal.invariant-loop-place
invariant-loop-place l = l.source ≡ instructions_from l.self l.place (drop l.place l.self.lines)
