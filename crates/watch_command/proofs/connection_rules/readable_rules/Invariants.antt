use Rattle.std.proofs.Common.{[], map, drop}
use Rattle.std.specs.Prelude.{string_bytes}
use Rattle.watch_command.specs.CountedRules.{text_counts}
use Rattle.watch_command.specs.RulesCounted.{TextCounts, AreCounted}
use Rattle.watch_command.proofs.connection_rules.readable_rules.Given as goal

abbrev pub invariant-loop-text : goal.invariant-loop-text
invariant-loop-text g l = (after : TextCounts) → AreCounted (map string_bytes (drop l.text-index l.texts)) (text_counts l.rules.items) after → AreCounted (map string_bytes l.texts) [] after
