use Rattle.std.proofs.Common.{◌≡◌, ◌+◌, drop}
use Rattle.watch_command.specs.Colours.{word_len}
use Rattle.watch_command.proofs.style.word_len.Given as goal

abbrev pub invariant-loop-len : goal.invariant-loop-len
invariant-loop-len l = word_len l.line ≡ l.len + word_len (drop l.len l.line)
