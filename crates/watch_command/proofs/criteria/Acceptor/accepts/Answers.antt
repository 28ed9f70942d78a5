use Rattle.watch_command.proofs.criteria.Acceptor.accepts.Goals as goal

pub returns-in-Expression : goal.returns-in-Expression
returns-in-Expression c = λ m owners valid. rw c.in-Expression.is (c.holds.ensures m owners valid)
