use Rattle.std.proofs.Common.{subst, sym}
use Rattle.std.specs.Prelude.{IfSome, ◌≡◌}
use Rattle.match_rule.specs.declared.condition.Condition.{Condition}
use Rattle.match_rule.specs.RuleTree.{owned_name_in}
use Rattle.match_rule.specs.Holds.{ConditionHolds}
use Rattle.match_rule.proofs.OneSender.{more_hold}
use Rattle.match_rule.proofs.holding.all_hold.Goals as goal

pub loop-condition-preserved : goal.loop-condition-preserved
loop-condition-preserved c = λ m owned valid agreed.
    let here = subst (λ (x : Condition). IfSome (owned_name_in x) (λ name. owned name ≡ c.args.owns)) (sym c.condition-item.is) (agreed c.loop-condition.condition-index c.condition-item.result c.loop-condition-test.true) in
    more_hold (λ x. ConditionHolds x m owned) c.args.conditions.now c.loop-condition.condition-index c.condition-item.result c.loop-condition-test.true c.condition-item.is (c.loop-condition.invariant m owned valid agreed) ((c.holds.ensures m owned valid here).0 c.if-not-holds.false)

pub returns-then-not-holds : goal.returns-then-not-holds
returns-then-not-holds c = λ m owned valid agreed. (
  λ e. absurd cc,
  λ all.
      let here = subst (λ (x : Condition). IfSome (owned_name_in x) (λ name. owned name ≡ c.args.owns)) (sym c.condition-item.is) (agreed c.loop-condition.condition-index c.condition-item.result c.loop-condition-test.true) in
      let held = (c.holds.ensures m owned valid here).1 (subst (λ (x : Condition). ConditionHolds x m owned) (sym c.condition-item.is) (all c.loop-condition.condition-index c.condition-item.result c.loop-condition-test.true)) in
      absurd cc,
)
