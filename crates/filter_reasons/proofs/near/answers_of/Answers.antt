use Rattle.filter_reasons.proofs.NearTests.{more_answers, all_answers}
use Rattle.filter_reasons.proofs.near.answers_of.Goals as goal

pub loop-place-preserved : goal.loop-place-preserved
loop-place-preserved c = λ m valid later rest.
    rw c.in_ok-push.ensures.items
    (more_answers m (λ name. c.args.owns) c.args.tests.now c.loop-place.place c.index-tests-place.result c.in_ok-holds.holds c.loop-place.answers.items c.loop-place-test.true c.index-tests-place.is (c.in_ok-holds.ensures.value m valid) (c.loop-place.invariant m valid) later rest)

pub returns : goal.returns
returns c = λ m valid. all_answers m (λ name. c.args.owns) c.args.tests.now c.loop-place.place c.loop-place.answers.items c.loop-place-test.false (c.loop-place.invariant m valid)
