use Rattle.std.proofs.Common.{◌≡◌, ◌*◌, take}
use Rattle.std.specs.List.{list_all}
use Rattle.message_value.specs.Forms.{is_plain}
use Rattle.message_value.proofs.text.many_are_plain.Given as goal

abbrev pub invariant-loop-i : goal.invariant-loop-i
invariant-loop-i l = l.plain ≡ list_all is_plain (take (16 * l.i) l.bytes)
