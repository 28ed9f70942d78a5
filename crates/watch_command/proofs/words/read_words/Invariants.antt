use Rattle.std.proofs.Common.{◌≡◌, drop}
use Rattle.watch_command.specs.Sayings.{sayings_of, sayings_from, sayings_in, texts}
use Rattle.watch_command.proofs.words.read_words.Given as goal

abbrev pub invariant-loop-i : goal.invariant-loop-i
invariant-loop-i l = sayings_from (sayings_of l.said.items) l.awaited (texts (drop l.i l.words)) ≡ sayings_in (texts l.words)
