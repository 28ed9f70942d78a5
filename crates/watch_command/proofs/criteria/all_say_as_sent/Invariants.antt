use Rattle.std.proofs.Common.{ℕ, ◌<◌, get_or}
use Rattle.message_view.specs.Message.{Message}
use Rattle.message_view.specs.Valid.{Valid}
use Rattle.match_rule.specs.declared.condition.Condition.{Condition}
use Rattle.watch_command.specs.Showing.{SaysAsSent}
use Rattle.watch_command.proofs.criteria.all_say_as_sent.Given as goal

-- those in front hold
abbrev pub invariant-loop-condition : goal.invariant-loop-condition
invariant-loop-condition l = (m : Message) → Valid l.view m → (k : ℕ) (d : Condition) → k < l.condition-index → SaysAsSent m l.owns (get_or l.conditions k d)
