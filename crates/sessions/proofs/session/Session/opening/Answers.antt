use Rattle.std.proofs.Common.{rules, inr}
use Rattle.sessions.proofs.session.Session.opening.Goals as goal

pub returns-in-Err-clause-none : goal.returns-in-Err-clause-none
returns-in-Err-clause-none g c = inr (c.in-Err.field-0, search rules)
