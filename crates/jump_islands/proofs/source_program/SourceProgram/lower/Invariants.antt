use Rattle.jump_islands.proofs.SourceTails.{Done}
use Rattle.jump_islands.proofs.source_program.SourceProgram.lower.Given as goal

abbrev pub invariant-loop-place : goal.invariant-loop-place
invariant-loop-place l = Done l.instructions l.place l.tail
