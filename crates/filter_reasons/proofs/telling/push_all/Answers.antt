use Rattle.std.proofs.Common.{[], ◌∷◌, ◌++◌, sym, append-nil}
use Rattle.std.specs.Prelude.{string_bytes}
use Rattle.filter_reasons.specs.Telling.{no_more}
use Rattle.filter_reasons.proofs.TestLines.{one_turn, next_text}
use Rattle.filter_reasons.proofs.telling.push_all.Goals as goal

pub loop-test-init : goal.loop-test-init
loop-test-init c = λ m valid. ([], no_more, sym (append-nil (string_bytes c.args.text.now)))

pub loop-test-preserved : goal.loop-test-preserved
loop-test-preserved c = λ m valid.
    let so = c.loop-test.invariant m valid in
    let adds = c.in_ok-push_test.ensures.told m valid in (
      so.0 ++ adds.0 ∷ [],
      one_turn m c.args.owns c.args.tests.now c.loop-test.test-index c.test-item.result so.0 adds.0 c.loop-test-test.true c.test-item.is so.1 adds.1,
      next_text c.args.front.now _ _ _ so.0 adds.0 so.2 adds.2,
    )
