use Rattle.std.proofs.Common.{◌≡◌, ◌∙◌, List, ap, sym, subst}
use Rattle.program_table.specs.declared.command.Command.{Command}
use Rattle.passes.specs.Passes.{PassState}
use Rattle.passes.specs.Theirs.{AreTheirs}
use Rattle.passes.proofs.pass.Pass.put_back.Goals as goal

pub invariant_of-self : goal.invariant_of-self
invariant_of-self g c =
    let at = ap (λ (v : PassState g.row.M.Denot). v.connection) c.self.view_is in
    let P : List (Command g.row.M.Denot) → Type 0 = λ l. AreTheirs g.M.Mailbox.outbox_of l c.args.sender.recipient_seats in (
      record { none = c.self.invariant.0.none; some = c.self.invariant.0.some; own = c.self.invariant.0.own },
      (c.requires.origin ∙ sym at, λ e. c.requires.number (sym at ∙ e)),
      subst P (sym (ap (λ (v : PassState g.row.M.Denot). v.seen) c.self.view_is)) c.requires.theirs,
    )
