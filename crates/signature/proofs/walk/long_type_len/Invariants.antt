use Rattle.std.proofs.Common.{◌≡◌, ◌+◌, [], drop, None}
use Rattle.signature.specs.Reading.{fault_from}
use Rattle.signature.specs.TypeTexts.{type_len_from}
use Rattle.signature.proofs.walk.long_type_len.Given as goal

abbrev pub invariant-loop-byte : goal.invariant-loop-byte
invariant-loop-byte l = (fault_from l.nesting (drop l.byte-index l.text) ≡ None) × (type_len_from l.nesting (drop l.byte-index l.text) + l.len ≡ type_len_from [] l.text) × (l.len ≡ l.byte-index)
