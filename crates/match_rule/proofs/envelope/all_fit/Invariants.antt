use Rattle.std.proofs.Common.{ℕ, ◌<◌, get_or}
use Rattle.message_view.specs.Message.{Message}
use Rattle.message_view.specs.Valid.{Valid}
use Rattle.match_rule.specs.declared.condition.Condition.{Condition}
use Rattle.match_rule.specs.Envelope.{ConditionFits}
use Rattle.match_rule.proofs.envelope.all_fit.Given as goal

-- those in front fit
abbrev pub invariant-loop-condition : goal.invariant-loop-condition
invariant-loop-condition l = (m : Message) → Valid l.view m → (k : ℕ) (d : Condition) → k < l.condition-index → ConditionFits (get_or l.conditions k d) m
