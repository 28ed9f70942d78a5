use Rattle.std.proofs.Common.{List, ◌++◌, drop}
use Rattle.message_view.specs.Message.{Message}
use Rattle.message_view.specs.Valid.{Valid}
use Rattle.filter_reasons.specs.Answered.{AreAnswers}
use Rattle.filter_reasons.specs.Lent.{trees}
use Rattle.filter_reasons.specs.declared.near.Answer.{Answer}
use Rattle.filter_reasons.proofs.near.answers_of.Given as goal

-- the answers of those that are left complete what was found
abbrev pub invariant-loop-place : goal.invariant-loop-place
invariant-loop-place l =
    (m : Message) → Valid l.view m → (later : List Answer) → AreAnswers m (λ name. l.owns) l.place (trees (drop l.place l.tests)) later → AreAnswers m (λ name. l.owns) 0 (trees l.tests) (l.answers.items ++ later)
