use Rattle.std.proofs.Common.{◌∙◌}
use Rattle.rule_text.proofs.Commas.{from, without_comma}
use Rattle.rule_text.proofs.writing.rule_text.Goals as goal

pub returns-in-None : goal.returns-in-None
returns-in-None c = without_comma _ _ (from c.args.rule.now 0 71) c.in_ok-text.ensures (λ rest begins. c.in-None.ensures.cases rest (c.as_str.ensures.value ∙ begins))
