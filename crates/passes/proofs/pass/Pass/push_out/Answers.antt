use Rattle.std.proofs.Common.{List, sym, subst}
use Rattle.routing.specs.SenderView.{RecipientSeatView}
use Rattle.passes.specs.Sending.{recipient_seats_in}
use Rattle.passes.specs.Theirs.{AreTheirs}
use Rattle.passes.proofs.Theirs.{theirs_written}
use Rattle.passes.proofs.pass.Pass.push_out.Goals as goal

pub invariant_of-self : goal.invariant_of-self
invariant_of-self g c =
    let P : List RecipientSeatView → Type 0 = λ l. AreTheirs g.M.Mailbox.outbox_of c.self.inside.history_reader l in (
      record { none = c.self.invariant.0.none; some = c.self.invariant.0.some; own = c.self.invariant.0.own },
      c.push_out.ensures.stays c.self.inside.connection c.self.invariant.1,
      subst P (sym c.push_out.ensures.seats) (theirs_written g.M.Mailbox.outbox_of c.self.inside.history_reader (recipient_seats_in c.self.inside.sender) c.self.invariant.2),
    )
