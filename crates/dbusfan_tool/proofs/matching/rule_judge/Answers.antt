use Rattle.dbusfan_tool.proofs.Compiled.{not_compiled, of_rule_fault, of_refusal}
use Rattle.dbusfan_tool.proofs.matching.rule_judge.Goals as goal

pub returns-in_err-rule-clause-fault : goal.returns-in_err-rule-clause-fault
returns-in_err-rule-clause-fault c =
    not_compiled _ _ _ c.from_residual.ensures.1 (of_rule_fault _ c.in_err-rule.field-0.0 c.in_err-rule.ensures.fault)

pub returns-in_err-program-clause-fault : goal.returns-in_err-program-clause-fault
returns-in_err-program-clause-fault c =
    let refusal = c.in_err-program.ensures.refused in
    not_compiled _ _ _ (rw refusal.2 at c.from_residual-in_err-program.ensures.1) (of_refusal _ _ c.in_ok-rule.ensures.found refusal.0 refusal.1)

pub returns-clause-found : goal.returns-clause-found
returns-clause-found c = (_, c.in_ok-rule.ensures.found, c.of_rule.ensures c.in_ok-program.ensures.compiled)
