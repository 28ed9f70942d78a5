use Rattle.std.proofs.Common.{◌≡◌, get_or, List, length, subst, ◌<◌, refl, arith}
use Rattle.filter.specs.FilterTree.{FilterTree}
use Rattle.filter.specs.Filters.{tree_of}
use Rattle.filter_reasons.specs.Answered.{AreAnswers}
use Rattle.filter_reasons.proofs.NearTests.{decides, one_near, none_near, all_near}
use Rattle.filter_reasons.proofs.near.near_tests.Goals as goal
use Rattle.filter_reasons.proofs.near.near_tests.Goals.{then-value+in_ok-push, else-value}

pub loop-place-preserved : goal.loop-place-preserved
loop-place-preserved c = λ m valid later rest.
    let f : FilterTree = tree_of c.args.filter.now in
    let told = rw c.deref.ensures.value at (c.in_ok-answers.ensures m valid) in
    let answers = subst (λ (ts : List FilterTree). AreAnswers m (λ name. c.args.owns) 0 ts c.in_ok-answers.answers.items) c.in_ok-tests.ensures told in
    let is = rw c.deref-in-loop-place.ensures.value at c.value-value.ensures.value in
    let holds = decides m (λ name. c.args.owns) c.loop-place.place f c.in_ok-answers.answers.items _ answers is in
    let tests = c.in_ok-tests.tests.items in
    let below : c.loop-place.place < length tests = omega (arith, c.loop-place-test.true, c.len-place-end.ensures) in
    let found : c.index-test.result.now ≡ get_or tests c.loop-place.place c.index-test.result.now = search (c.index-test.ensures) in
    let before = c.loop-place.invariant m valid in
    elim c.if-value.branch [
      | then-value+in_ok-push w ↦ rw w.near-is (rw w.in_ok-push.ensures.items (one_near f m (λ name. c.args.owns) tests c.loop-place.near.items c.loop-place.place c.index-test.result.now below found (holds.0 w.if-value.true) before later rest))
      | else-value w ↦ rw w.near-is (none_near f m (λ name. c.args.owns) tests c.loop-place.near.items c.loop-place.place c.index-test.result.now below found (λ h. let e = holds.1 h in absurd cc) before later rest)
    ]

pub returns-then-branch : goal.returns-then-branch
returns-then-branch c = λ m valid. record {
  none = λ holds. rw c.new-near.ensures.items refl;
  each = λ fails. absurd (fails ((c.in_ok-holds.ensures.value m valid).0 c.if-branch.true));
}

pub returns : goal.returns
returns c = λ m valid. record {
  none = λ holds. let e = (c.in_ok-holds.ensures.value m valid).1 holds in absurd cc;
  each = λ fails. all_near (tree_of c.args.filter.now) m (λ name. c.args.owns) c.in_ok-tests.tests.items c.loop-place.near.items c.loop-place.place (omega (arith, c.loop-place-test.false, c.len-place-end.ensures)) (c.loop-place.invariant m valid);
}
