use Rattle.std.proofs.Common.{◌≡◌, drop}
use Rattle.watch_command.specs.Sayings.{sayings_of}
use Rattle.watch_command.specs.Options.{word_of}
use Rattle.watch_command.proofs.sayings.word_of.Given as goal

abbrev pub invariant-loop-word : goal.invariant-loop-word
invariant-loop-word l = word_of l.key (sayings_of (drop l.word-index l.words)) ≡ word_of l.key (sayings_of l.words)
