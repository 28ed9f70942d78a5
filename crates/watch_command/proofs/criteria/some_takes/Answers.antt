use Rattle.std.proofs.Common.{refl, subst}
use Rattle.std.proofs.lemmas.List.{drop_all}
use Rattle.watch_command.specs.Showing.{SomeTakes, TakesRule}
use Rattle.watch_command.proofs.Takes.{passed, taken}
use Rattle.watch_command.proofs.criteria.some_takes.Goals as goal

pub loop-rule-init : goal.loop-rule-init
loop-rule-init c = λ m valid. (λ take. take, λ take. take)

pub loop-rule-preserved : goal.loop-rule-preserved
loop-rule-preserved c = λ m valid.
    passed c.args.owners.now c.args.destinations m c.args.rules.now c.loop-rule.rule-index c.rule-item.result c.loop-rule-test.true c.rule-item.is
    (λ (takes : TakesRule c.args.owners.now c.args.destinations m c.rule-item.result). let holds = (c.rule_takes.ensures m valid).1 takes in cc)
    (c.loop-rule.invariant m valid)

pub returns-then-rule_takes : goal.returns-then-rule_takes
returns-then-rule_takes c = λ m valid. (
  λ e. taken c.args.owners.now c.args.destinations m c.args.rules.now c.loop-rule.rule-index c.rule-item.result c.loop-rule-test.true c.rule-item.is ((c.rule_takes.ensures m valid).0 c.if-rule_takes.true) (c.loop-rule.invariant m valid),
  λ take. refl,
)

pub returns : goal.returns
returns c = λ m valid. (
  λ e. absurd cc,
  λ take.
      let none = subst (λ l. SomeTakes c.args.owners.now c.args.destinations m l) (drop_all c.loop-rule.rule-index c.args.rules.now c.loop-rule-test.false) ((c.loop-rule.invariant m valid).1 take) in
      absurd none,
)
