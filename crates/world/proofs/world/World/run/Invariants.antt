use Rattle.std.proofs.Common.{take}
use Rattle.world.specs.IsWorld.{AreDone}
use Rattle.world.proofs.world.World.run.Given as goal

abbrev pub invariant-loop-place : goal.invariant-loop-place
invariant-loop-place l = AreDone (take l.place l.events) l.fn.self l.self l.fn.answers.items l.answers.items
