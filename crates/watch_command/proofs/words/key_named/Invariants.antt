use Rattle.std.proofs.Common.{◌≡◌, drop, map}
use Rattle.watch_command.specs.Sayings.{key_in, key_of}
use Rattle.watch_command.proofs.words.key_named.Given as goal

abbrev pub invariant-loop-name : goal.invariant-loop-name
invariant-loop-name l = key_in l.word (map (λ named. (named.0.now, named.1)) (drop l.name-index l.name-items)) ≡ key_of l.word
