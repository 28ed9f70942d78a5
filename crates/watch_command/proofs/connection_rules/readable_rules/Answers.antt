use Rattle.std.proofs.Common.{Global}
use Rattle.std.specs.Prelude.{string_bytes}
use Rattle.watch_command.specs.CountedRules.{text_counts}
use Rattle.watch_command.proofs.RulesCounted.{counted_next}
use Rattle.watch_command.proofs.connection_rules.readable_rules.Goals as goal

pub loop-text-preserved : goal.loop-text-preserved
loop-text-preserved g c = λ after later.
    c.loop-text.invariant after
    (counted_next (string_bytes {Z = Global}) c.args.texts.now c.loop-text.text-index c.text-item.result c.as_str.result.now
    (text_counts c.loop-text.rules.items) (text_counts c.put_rule.new.rules.items) after
    c.loop-text-test.true c.text-item.is c.as_str.ensures.value c.in_ok-put_rule.ensures later)
