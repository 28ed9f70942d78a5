use Rattle.rule_reasons.proofs.Lines.{none_where_it_holds}
use Rattle.rule_reasons.proofs.laws.no_reason_where_it_holds.Goals as goal

pub returns : goal.returns
returns c = none_where_it_holds
