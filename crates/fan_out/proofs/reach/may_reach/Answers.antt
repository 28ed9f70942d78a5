use Rattle.std.specs.Prelude.{Some}
use Rattle.match_rule.specs.FixedTexts.{texts_from}
use Rattle.fan_out.proofs.Reaching.{nobody_reached, somebody_reached}
use Rattle.fan_out.proofs.reach.may_reach.Goals as goal

pub returns-in-None : goal.returns-in-None
returns-in-None g c m valid =
    nobody_reached c.args.state.now (texts_from (Some c.args.sender.now) m) c.entries_for-entries.result c.offered_where_it_holds.ensures (c.entries_for-entries.ensures.offers m valid) c.in-None.ensures.steps.0

pub returns-in-Some : goal.returns-in-Some
returns-in-Some g c m valid =
    somebody_reached c.args.state.now (texts_from (Some c.args.sender.now) m) c.entries_for-entries.result _ _ (c.entries_for-entries.ensures.offers m valid) c.in-Some.ensures.steps
