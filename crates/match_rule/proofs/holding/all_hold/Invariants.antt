use Rattle.std.proofs.Common.{◌≡◌, ℕ, ◌<◌, Bool, List, get_or}
use Rattle.std.specs.Prelude.{All, IfSome}
use Rattle.message_view.specs.Message.{Message}
use Rattle.message_view.specs.Valid.{Valid}
use Rattle.match_rule.specs.declared.condition.Condition.{Condition}
use Rattle.match_rule.specs.RuleTree.{owned_name_in}
use Rattle.match_rule.specs.Holds.{ConditionHolds}
use Rattle.match_rule.proofs.holding.all_hold.Given as goal

-- those in front hold
abbrev pub invariant-loop-condition : goal.invariant-loop-condition
invariant-loop-condition l = (m : Message) (owned : List ℕ → Bool) → Valid l.view m → All (λ c. IfSome (owned_name_in c) (λ name. owned name ≡ l.owns)) l.conditions → (k : ℕ) (d : Condition) → k < l.condition-index → ConditionHolds (get_or l.conditions k d) m owned
