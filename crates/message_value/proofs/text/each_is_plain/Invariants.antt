use Rattle.std.proofs.Common.{◌≡◌, drop}
use Rattle.std.specs.Prelude.{◌&&◌}
use Rattle.std.specs.List.{list_all}
use Rattle.message_value.specs.Forms.{is_plain}
use Rattle.message_value.proofs.text.each_is_plain.Given as goal

abbrev pub invariant-loop-byte : goal.invariant-loop-byte
invariant-loop-byte l = (l.plain && list_all is_plain (drop l.byte-index l.bytes)) ≡ list_all is_plain l.bytes
