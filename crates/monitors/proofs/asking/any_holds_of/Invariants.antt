use Rattle.std.proofs.Common.{ℕ, ◌<◌, get_or}
use Rattle.message_view.specs.Message.{Message}
use Rattle.message_view.specs.Valid.{Valid}
use Rattle.match_rule.specs.RuleTree.{RuleTree}
use Rattle.monitors.specs.Wanting.{FailsFor}
use Rattle.monitors.proofs.asking.any_holds_of.Given as goal

-- those in front don't hold
abbrev pub invariant-loop-rule : goal.invariant-loop-rule
invariant-loop-rule g l = (m : Message) → Valid l.view m → (k : ℕ) (d : RuleTree) → k < l.rule-index → FailsFor (g.O.Owners.answers l.owners) (g.O.Owners.unites l.owners) m (get_or l.rules k d)
