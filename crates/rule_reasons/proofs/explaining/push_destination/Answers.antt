use Rattle.rule_reasons.specs.Reasons.{to_text}
use Rattle.rule_reasons.proofs.Lines.{one_line}
use Rattle.rule_reasons.proofs.explaining.push_destination.Goals as goal

pub returns-in_ok-push_to-in-Some : goal.returns-in_ok-push_to-in-Some
returns-in_ok-push_to-in-Some c = rw c.in-Some.is (one_line c.args.front.now _ _ _ (to_text c.in-Some.name.now) c.in_ok-push_str-in-Some.ensures.bytes c.in_ok-push_to-in-Some.ensures)
