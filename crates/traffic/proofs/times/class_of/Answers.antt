use Rattle.traffic.specs.Times.{none, part}
use Rattle.traffic.proofs.times.class_of.Goals as goal

pub returns-then-time-eq0-clause-value : goal.returns-then-time-eq0-clause-value
returns-then-time-eq0-clause-value c = none c.args.time c.if-time-eq0.true

pub returns-clause-value : goal.returns-clause-value
returns-clause-value c = part c.args.time c.ilog2.result _ c.ilog2.ensures.power_le c.ilog2.ensures.next_power_gt (cc)
