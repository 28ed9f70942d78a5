use Rattle.std.proofs.Common.{◌≡◌, ◌==◌, ◌||◌, drop}
use Rattle.std.specs.List.{list_any}
use Rattle.message_value.proofs.text.any_zero.Given as goal

abbrev pub invariant-loop-byte : goal.invariant-loop-byte
invariant-loop-byte l =
    (l.found || list_any (λ byte. byte == 0) (drop l.byte-index l.bytes)) ≡ list_any (λ byte. byte == 0) l.bytes
