use Rattle.std.proofs.Common.{refl, subst, sym, arith}
use Rattle.match_rule.specs.declared.condition.Condition.{Condition}
use Rattle.match_rule.proofs.OneSender.{more_hold}
use Rattle.watch_command.specs.Showing.{SaysAsSent}
use Rattle.watch_command.proofs.criteria.all_say_as_sent.Goals as goal

pub loop-condition-preserved : goal.loop-condition-preserved
loop-condition-preserved c = λ m valid.
    more_hold (SaysAsSent m c.args.owns) c.args.conditions.now c.loop-condition.condition-index c.condition-item.result c.loop-condition-test.true c.condition-item.is (c.loop-condition.invariant m valid) ((c.says_as_sent.ensures m valid).0 c.if-not-says_as_sent.false)

pub returns-then-not-says_as_sent : goal.returns-then-not-says_as_sent
returns-then-not-says_as_sent c = λ m valid. (
  λ e. absurd cc,
  λ all.
      let held = (c.says_as_sent.ensures m valid).1 (subst (λ (x : Condition). SaysAsSent m c.args.owns x) (sym c.condition-item.is) (all c.loop-condition.condition-index c.condition-item.result c.loop-condition-test.true)) in
      absurd cc,
)

pub returns : goal.returns
returns c = λ m valid. ((λ e k d below. c.loop-condition.invariant m valid k d (omega arith)), λ all. refl)
