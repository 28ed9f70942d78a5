use Rattle.std.proofs.Common.{[], length}
use Rattle.message_value.specs.Reading.{inside}
use Rattle.message_view.specs.Reading.{fields_from}
use Rattle.message_view.proofs.Loop.{SoFar}
use Rattle.message_view.proofs.fields.Fields.read.Given as goal

abbrev pub invariant-loop-cursor : goal.invariant-loop-cursor
invariant-loop-cursor l = SoFar l.order l.fn.place l.self l.cursor (fields_from (length l.fn.bytes) l.fn.order [] (inside l.fn.place l.fn.bytes))

abbrev pub decreases-loop-cursor : goal.decreases-loop-cursor
decreases-loop-cursor l = length l.cursor.rest
