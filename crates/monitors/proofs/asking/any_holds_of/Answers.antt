use Rattle.std.proofs.Common.{sym}
use Rattle.match_rule.proofs.OneSender.{more_hold}
use Rattle.monitors.specs.Wanting.{FailsFor}
use Rattle.monitors.proofs.asking.any_holds_of.Goals as goal

pub loop-rule-preserved : goal.loop-rule-preserved
loop-rule-preserved g c = λ m valid.
    more_hold (FailsFor (g.O.Owners.answers c.args.owners.now) (g.O.Owners.unites c.args.owners.now) m) c.args.rules.now c.loop-rule.rule-index c.rule-item.result c.loop-rule-test.true c.rule-item.is (c.loop-rule.invariant m valid) (c.if-holds_of.ensures m valid)

pub returns-then-holds_of : goal.returns-then-holds_of
returns-then-holds_of g c = λ m valid. (c.loop-rule.rule-index, c.rule-item.result, c.loop-rule-test.true, sym c.rule-item.is, c.if-holds_of.ensures m valid)
