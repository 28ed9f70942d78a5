use Rattle.std.proofs.Common.{◌≡◌, drop, take, ◌++◌}
use Rattle.match_key.specs.Key.{digits_of, after_digits}
use Rattle.filter.proofs.arg_word.split_digits.Given as goal

abbrev pub invariant-loop-i : goal.invariant-loop-i
invariant-loop-i l = (take l.i l.bytes ++ digits_of (drop l.i l.bytes) ≡ digits_of l.bytes) × (after_digits (drop l.i l.bytes) ≡ after_digits l.bytes)
