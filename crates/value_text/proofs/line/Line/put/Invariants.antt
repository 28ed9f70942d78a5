use Rattle.std.proofs.Common.{◌≡◌, ◌++◌, take}
use Rattle.std.specs.List.{flat_map}
use Rattle.value_text.specs.Escaped.{escape_of}
use Rattle.value_text.proofs.line.Line.put.Given as goal

abbrev pub invariant-loop-byte : goal.invariant-loop-byte
invariant-loop-byte l = l.self ≡ l.fn.self ++ flat_map escape_of (take l.byte-index l.text)
