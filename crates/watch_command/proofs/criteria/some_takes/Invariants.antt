use Rattle.std.proofs.Common.{◌↔◌, drop}
use Rattle.message_view.specs.Message.{Message}
use Rattle.message_view.specs.Valid.{Valid}
use Rattle.watch_command.specs.Showing.{SomeTakes}
use Rattle.watch_command.proofs.criteria.some_takes.Given as goal

abbrev pub invariant-loop-rule : goal.invariant-loop-rule
invariant-loop-rule l = (m : Message) → Valid l.view m → (SomeTakes l.owners l.destinations m (drop l.rule-index l.rules) ↔ SomeTakes l.owners l.destinations m l.rules)
