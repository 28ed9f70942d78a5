use Rattle.std.proofs.Common.{arith}
use Rattle.rule_text.proofs.Places.{next_place}
use Rattle.rule_text.proofs.writing.parts.Goals as goal

pub loop-place-preserved : goal.loop-place-preserved
loop-place-preserved c = (omega (arith, c.loop-place-test.true), next_place c.args.rule.now _ _ _ c.loop-place.place c.loop-place-test.true c.loop-place.invariant.1 c.in_ok-push_parts.ensures)
