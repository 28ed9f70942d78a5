use Rattle.std.proofs.Common.{◌≡◌, map, drop}
use Rattle.command_line.specs.RowReading.{no_words, gather}
use Rattle.command_line.specs.Views.{names_of, options_of}
use Rattle.command_line.proofs.gathered.Gathered.read.Given as goal

abbrev pub invariant-loop-i : goal.invariant-loop-i
invariant-loop-i l =
    gather (record { names = names_of l.so_far.0; options = options_of l.so_far.1.0; awaited = l.so_far.1.1.0 }) (map (λ word. word.now) (drop l.i l.words)) ≡ gather no_words (map (λ word. word.now) l.words)
