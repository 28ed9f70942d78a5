use Rattle.std.proofs.Common.{◌≡◌, ℕ, List, ◌++◌, take, string_bytes}
use Rattle.message_view.specs.Message.{Message}
use Rattle.message_view.specs.Valid.{Valid}
use Rattle.rule_reasons.specs.Reasons.{AreReasons, after_fronts}
use Rattle.rule_reasons.proofs.explaining.push_conditions.Given as goal

-- the lines of those in front were added
abbrev pub invariant-loop-condition : goal.invariant-loop-condition
invariant-loop-condition l = (m : Message) → Valid l.view m → (lines : List (List ℕ)) × AreReasons m l.owns (take l.condition-index l.conditions) lines × (string_bytes l.text ≡ string_bytes l.fn.text ++ after_fronts l.front lines)
