use Rattle.std.proofs.Common.{◌≡◌, ◌++◌, drop}
use Rattle.std.specs.Prelude.{string_bytes}
use Rattle.watch_command.specs.Counts.{count_lines}
use Rattle.watch_command.specs.CountedRules.{text_counts}
use Rattle.watch_command.proofs.counts.lines_of.Given as goal

abbrev pub invariant-loop-rule : goal.invariant-loop-rule
invariant-loop-rule l = string_bytes l.text ++ count_lines (text_counts (drop l.rule-index l.rules)) ≡ count_lines (text_counts l.rules)
