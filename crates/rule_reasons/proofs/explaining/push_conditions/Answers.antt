use Rattle.std.proofs.Common.{[], ◌++◌, sym, append-nil}
use Rattle.std.specs.Prelude.{string_bytes}
use Rattle.rule_reasons.specs.Reasons.{no_more}
use Rattle.rule_reasons.proofs.Lines.{one_turn, more_text}
use Rattle.rule_reasons.proofs.explaining.push_conditions.Goals as goal

pub loop-condition-init : goal.loop-condition-init
loop-condition-init c = λ m valid. ([], no_more, sym (append-nil (string_bytes c.args.text.now)))

pub loop-condition-preserved : goal.loop-condition-preserved
loop-condition-preserved c = λ m valid.
    let so = c.loop-condition.invariant m valid in
    let adds = c.in_ok-push_condition.ensures m valid in (
      so.0 ++ adds.0,
      one_turn m c.args.owns c.args.conditions.now c.loop-condition.condition-index c.condition-item.result so.0 adds.0 c.loop-condition-test.true c.condition-item.is so.1 adds.1,
      more_text c.args.front.now _ _ _ so.0 adds.0 so.2 adds.2,
    )
