use Rattle.std.specs.Prelude.{Some}
use Rattle.watch_command.proofs.Takes.{selected}
use Rattle.watch_command.proofs.criteria.Criteria.selects.Goals as goal

pub returns-in-Some : goal.returns-in-Some
returns-in-Some c = λ m valid.
    let taken = rw c.deref.ensures.value at ((c.is_taken_by.ensures m valid).0 c.if-not-is_taken_by.false) in
    rw c.in-Some.is (selected c.args.owners.now c.args.self.now.destinations m c.args.self.now.rules.items (Some c.in-Some.acceptor) c.accepts.result taken (c.accepts.ensures m c.args.owners.now valid))
