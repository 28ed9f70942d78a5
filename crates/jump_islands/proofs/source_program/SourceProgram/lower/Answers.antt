use Rattle.std.proofs.Common.{◌+◌, Err, ap, arith}
use Rattle.std.proofs.lemmas.Result.{err_from_is_err_and}
use Rattle.jump_islands.proofs.SourceTails.{done_tail, done_places, lowered, refused}
use Rattle.jump_islands.proofs.source_program.SourceProgram.lower.Goals as goal

pub add-requires-clause-places : goal.add-requires-clause-places
add-requires-clause-places c =
    done_places c.instructions-instructions.result.now c.loop-place.place c.loop-place.tail c.loop-place.invariant

pub returns-in_err-add-clause-refused : goal.returns-in_err-add-clause-refused
returns-in_err-add-clause-refused c =
    let instructions = c.instructions-instructions.result.now in
    let tail = done_tail instructions c.loop-place.place c.loop-place.tail _ c.loop-place.invariant (omega arith) c.instructions-instructions.ensures.plain in
    let p = err_from_is_err_and c.from_residual-in_err-add.result c.from_residual-in_err-add.ensures.1 in
    rw (p.1, p.2) (refused c.args.self.now instructions (c.loop-place.place + 1) _ c.in_err-add.field-0.0 c.instructions-instructions.ensures.value tail (λ h. c.in_err-add.ensures.many (ap Err h)))

pub loop-place-preserved : goal.loop-place-preserved
loop-place-preserved c = record {
  tail = rw c.in_ok-add.ensures.added (done_tail c.instructions-instructions.result.now c.loop-place.place c.loop-place.tail _ c.loop-place.invariant (omega arith) c.instructions-instructions.ensures.plain);
  few = c.in_ok-add.ensures.few;
}

pub returns-clause-lowered : goal.returns-clause-lowered
returns-clause-lowered c =
    rw c.finish.ensures (lowered c.args.self.now c.instructions-instructions.result.now c.loop-place.place c.loop-place.tail (omega arith) c.instructions-instructions.ensures.value c.loop-place.invariant)
