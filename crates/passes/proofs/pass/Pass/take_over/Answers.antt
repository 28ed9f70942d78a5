use Rattle.std.proofs.Common.{◌≡◌, refl, ap, sym, subst, List}
use mathlib.Core.List.{IsPrefix}
use Rattle.program_table.specs.declared.command.Command.{Command}
use Rattle.passes.specs.Passes.{PassState}
use Rattle.passes.specs.Sending.{count_in, recipient_seats_in}
use Rattle.passes.proofs.Done.{still_taken}
use Rattle.passes.proofs.Theirs.{theirs_later}
use Rattle.passes.proofs.pass.Pass.take_over.Goals as goal

pub invariant_of-self : goal.invariant_of-self
invariant_of-self g c =
    let v : PassState g.row.M.Denot = record { seen = c.self.inside.history_reader; connection = c.self.inside.connection; is_closed = c.self.inside.is_closed; is_shut_out = c.self.inside.is_shut_out; took = c.self.inside.took; count = count_in c.self.inside.sender; recipient_seats = recipient_seats_in c.self.inside.sender } in
    let at : c.self.inside.history_reader ≡ c.args.self.now.seen = ap (λ (p : PassState g.row.M.Denot). p.seen) c.self.view_is in
    let begins : IsPrefix c.self.inside.history_reader c.take_over.new.self = subst (λ (l : List (Command g.row.M.Denot)). IsPrefix c.self.inside.history_reader l) (sym c.take_over.ensures) (subst (λ (l : List (Command g.row.M.Denot)). IsPrefix l c.args.told_history) (sym at) c.requires) in
    (still_taken v (record v { seen = c.take_over.new.self }) c.self.invariant.0 begins refl refl, c.self.invariant.1, theirs_later g.M.Mailbox.outbox_of c.self.inside.history_reader c.take_over.new.self (recipient_seats_in c.self.inside.sender) begins c.self.invariant.2)
