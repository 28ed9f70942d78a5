use Rattle.watch_command.proofs.plan.read_rule.Goals as goal

pub returns-in-Err-clause-refused : goal.returns-in-Err-clause-refused
returns-in-Err-clause-refused c = λ rule reads other. cc (c.in-Err.ensures.only rule reads other)
