use Rattle.std.proofs.Common.{◌≡◌, ℕ, List, ◌++◌, take, string_bytes}
use Rattle.message_view.specs.Message.{Message}
use Rattle.message_view.specs.Valid.{Valid}
use Rattle.rule_reasons.specs.Reasons.{after_fronts}
use Rattle.filter_reasons.specs.Lent.{trees}
use Rattle.filter_reasons.specs.Telling.{AreTold}
use Rattle.filter_reasons.proofs.telling.push_all.Given as goal

-- the lines of those in front were added
abbrev pub invariant-loop-test : goal.invariant-loop-test
invariant-loop-test l = (m : Message) → Valid l.view m → (lines : List (List ℕ)) × AreTold m l.owns (trees (take l.test-index l.tests)) lines × (string_bytes l.text ≡ string_bytes l.fn.text ++ after_fronts l.front lines)
