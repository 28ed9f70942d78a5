use Rattle.std.proofs.Common.{subst, sym}
use Rattle.match_rule.specs.declared.condition.Condition.{Condition}
use Rattle.match_rule.specs.Envelope.{ConditionFits}
use Rattle.match_rule.proofs.OneSender.{more_hold}
use Rattle.match_rule.proofs.envelope.all_fit.Goals as goal

pub loop-condition-preserved : goal.loop-condition-preserved
loop-condition-preserved c = λ m valid.
    more_hold (λ x. ConditionFits x m) c.args.conditions.now c.loop-condition.condition-index c.condition-item.result c.loop-condition-test.true c.condition-item.is (c.loop-condition.invariant m valid) ((c.fits.ensures m valid).0 c.if-not-fits.false)

pub returns-then-not-fits : goal.returns-then-not-fits
returns-then-not-fits c = λ m valid. (
  λ e. absurd cc,
  λ all.
      let fitted = (c.fits.ensures m valid).1 (subst (λ (x : Condition). ConditionFits x m) (sym c.condition-item.is) (all c.loop-condition.condition-index c.condition-item.result c.loop-condition-test.true)) in
      absurd cc,
)
