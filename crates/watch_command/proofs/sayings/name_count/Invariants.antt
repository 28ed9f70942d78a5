use Rattle.std.proofs.Common.{◌≡◌, ◌+◌, ◌≤◌, drop, length}
use Rattle.watch_command.specs.Sayings.{sayings_of}
use Rattle.watch_command.specs.Options.{names}
use Rattle.watch_command.proofs.sayings.name_count.Given as goal

abbrev pub invariant-loop-word : goal.invariant-loop-word
invariant-loop-word l = (l.count + length (names (sayings_of (drop l.word-index l.words))) ≡ length (names (sayings_of l.words))) × (l.count ≤ l.word-index)
