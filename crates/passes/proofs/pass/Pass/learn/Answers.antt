use Rattle.std.proofs.Common.{refl}
use Rattle.passes.specs.Passes.{PassState}
use Rattle.passes.specs.Sending.{count_in, recipient_seats_in}
use Rattle.passes.proofs.Done.{still_taken}
use Rattle.passes.proofs.Theirs.{theirs_later}
use Rattle.passes.proofs.pass.Pass.learn.Goals as goal

pub invariant_of-self : goal.invariant_of-self
invariant_of-self g c =
    let v : PassState g.row.M.Denot = record { seen = c.self.inside.history_reader; connection = c.self.inside.connection; is_closed = c.self.inside.is_closed; is_shut_out = c.self.inside.is_shut_out; took = c.self.inside.took; count = count_in c.self.inside.sender; recipient_seats = recipient_seats_in c.self.inside.sender } in
    (still_taken v (record v { seen = c.learn.new.self }) c.self.invariant.0 c.learn.ensures.this refl refl, c.self.invariant.1, theirs_later g.M.Mailbox.outbox_of c.self.inside.history_reader c.learn.new.self (recipient_seats_in c.self.inside.sender) c.learn.ensures.this c.self.invariant.2)
