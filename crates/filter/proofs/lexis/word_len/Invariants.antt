use Rattle.std.proofs.Common.{◌≡◌, ◌+◌, drop}
use Rattle.std.specs.List.{prefix_len}
use Rattle.filter.specs.Lexis.{is_word_byte}
use Rattle.filter.proofs.lexis.word_len.Given as goal

abbrev pub invariant-loop-len : goal.invariant-loop-len
invariant-loop-len l = prefix_len is_word_byte l.bytes ≡ l.len + prefix_len is_word_byte (drop l.len l.bytes)
