-- Inner: what one condition adds to the lines.
use Rattle.std.specs.Prelude.{ℕ, Bool, List, [], ◌∷◌}
use Rattle.message_view.specs.Message.{Message}
use Rattle.match_rule.specs.declared.condition.Condition.{Condition}
use Rattle.match_rule.specs.Holds.{ConditionHolds}
use Rattle.rule_reasons.specs.Reasons.{reason_line}

pub data Adds (m : Message) (owns : Bool) (c : Condition) : List (List ℕ) → Type 0 where
  nothing : ConditionHolds c m (λ name. owns) → Adds m owns c []
  one : (ConditionHolds c m (λ name. owns) → ⊥) → Adds m owns c (reason_line c m ∷ [])
