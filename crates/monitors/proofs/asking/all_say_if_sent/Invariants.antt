use Rattle.std.proofs.Common.{ℕ, ◌<◌, Bool, List, get_or}
use Rattle.message_view.specs.Message.{Message}
use Rattle.message_view.specs.Valid.{Valid}
use Rattle.match_rule.specs.declared.condition.Condition.{Condition}
use Rattle.monitors.specs.Sending.{SaysIfSent}
use Rattle.monitors.proofs.asking.all_say_if_sent.Given as goal

-- those in front hold
abbrev pub invariant-loop-condition : goal.invariant-loop-condition
invariant-loop-condition l = (m : Message) → Valid l.view m → (k : ℕ) (d : Condition) → k < l.condition-index → SaysIfSent l.to m (λ name. l.owns) (get_or l.conditions k d)
