use Rattle.std.proofs.Common.{◌≡◌, ◌++◌, drop}
use Rattle.watch_command.specs.Sayings.{sayings_of, texts}
use Rattle.watch_command.specs.Options.{names}
use Rattle.watch_command.proofs.sayings.names_of.Given as goal

abbrev pub invariant-loop-word : goal.invariant-loop-word
invariant-loop-word l = texts l.found.items ++ names (sayings_of (drop l.word-index l.words)) ≡ names (sayings_of l.words)
