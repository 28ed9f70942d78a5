use Rattle.std.proofs.Common.{◌≡◌, List, ◌++◌, length, take, filter}
use Rattle.message_view.specs.Message.{Field}
use Rattle.message_view.specs.Spelling.{fields_bytes}
use Rattle.message_view.specs.Valid.{AreFields}
use Rattle.message_build.specs.Stamped.{is_kept}
use Rattle.message_build.proofs.KeptLoop.{Left}
use Rattle.message_build.proofs.kept_fields.push_kept.Given as goal

abbrev pub invariant-loop-found : goal.invariant-loop-found
invariant-loop-found l =
    (take (length l.fn.bytes.items) l.bytes.items ≡ l.fn.bytes.items)
    × ((fields : List Field) → AreFields l.fn.order 0 fields → l.fn.array ≡ fields_bytes l.fn.order 0 fields → Left l.fn.order l.fn.array l.cursor l.bytes.items (l.fn.bytes.items ++ fields_bytes l.fn.order (length l.fn.bytes.items) (filter is_kept fields)))

abbrev pub decreases-loop-found : goal.decreases-loop-found
decreases-loop-found l = length l.cursor.rest
