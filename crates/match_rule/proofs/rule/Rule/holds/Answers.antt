use Rattle.std.proofs.Common.{subst}
use Rattle.std.specs.Prelude.{IsTrue, ◌↔◌}
use Rattle.match_rule.specs.RuleTree.{RuleTree}
use Rattle.match_rule.specs.Holds.{Holds, Agrees}
use Rattle.match_rule.proofs.OneSender.{held}
use Rattle.match_rule.proofs.rule.Rule.holds.Goals as goal

pub returns-then-is_offered : goal.returns-then-is_offered
returns-then-is_offered c = λ m owned valid.
    subst (λ (rule : RuleTree). Agrees rule owned c.args.owns → IsTrue c.all_hold.result ↔ Holds rule m owned) c.self.view_is
    (held _ m owned c.args.owns c.all_hold.result c.self.invariant.1
    (rw c.as_slice.ensures.value at (c.all_hold.ensures m owned valid))
    ((c.is_offered.ensures m valid).0 c.if-is_offered.true))
