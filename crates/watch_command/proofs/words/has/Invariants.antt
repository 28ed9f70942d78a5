use Rattle.std.proofs.Common.{◌≡◌, drop}
use Rattle.std.specs.List.{list_any}
use Rattle.watch_command.specs.Sayings.{sayings_of, is_key}
use Rattle.watch_command.proofs.words.has.Given as goal

abbrev pub invariant-loop-word : goal.invariant-loop-word
invariant-loop-word l = list_any (is_key l.key) (sayings_of (drop l.word-index l.words)) ≡ list_any (is_key l.key) (sayings_of l.words)
