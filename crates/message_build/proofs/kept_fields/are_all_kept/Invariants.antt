use Rattle.std.proofs.Common.{◌≡◌, List, length}
use Rattle.std.specs.List.{list_all}
use Rattle.message_view.specs.Message.{Field}
use Rattle.message_view.specs.Spelling.{fields_bytes}
use Rattle.message_view.specs.Valid.{AreFields}
use Rattle.message_build.specs.Stamped.{is_kept}
use Rattle.message_build.proofs.AllKept.{Rest}
use Rattle.message_build.proofs.kept_fields.are_all_kept.Given as goal

abbrev pub invariant-loop-cursor : goal.invariant-loop-cursor
invariant-loop-cursor l = (fields : List Field) → AreFields l.fn.order 0 fields → l.fn.array ≡ fields_bytes l.fn.order 0 fields → Rest l.fn.order l.cursor (list_all is_kept fields)

abbrev pub decreases-loop-cursor : goal.decreases-loop-cursor
decreases-loop-cursor l = length l.cursor.rest
