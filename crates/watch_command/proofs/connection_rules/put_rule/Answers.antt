use Rattle.std.proofs.Common.{refl, inr}
use Rattle.watch_command.proofs.connection_rules.put_rule.Goals as goal

pub returns-in_ok-note_unreadable-in-Err : goal.returns-in_ok-note_unreadable-in-Err
returns-in_ok-note_unreadable-in-Err g c = inr (λ rule reads. c.in-Err.ensures.refused rule reads c.in_ok-note_unreadable-in-Err.ensures, refl)
