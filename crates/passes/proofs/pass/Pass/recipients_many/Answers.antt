use Rattle.std.proofs.Common.{◌≡◌, ℕ, Option, ap, subst, ◌∙◌, arith}
use Rattle.message_view.specs.Message.{Message}
use Rattle.message_view.specs.Valid.{Valid}
use Rattle.program_table.specs.Recipients.{AreRecipients}
use Rattle.program_table.specs.State.{State}
use Rattle.passes.specs.Passes.{PassState, sender_of}
use Rattle.passes.proofs.Done.{asked}
use Rattle.passes.proofs.pass.Pass.recipients_many.Goals as goal

pub returns-in-Ok-clause-found : goal.returns-in-Ok-clause-found
returns-in-Ok-clause-found g c =
    let own = sender_of c.args.source c.args.self.now.connection in
    let P : Option ℕ → State g.row.M.Denot → Type 0 = λ from s. (m : Message) → Valid c.args.view.now m → AreRecipients s from m c.in-Ok.found.items in
    let from_is : c.sender-sender.result ≡ own = c.sender-sender.ensures ∙ ap (λ n. sender_of c.args.source n) (c.connection.ensures ∙ ap (λ (p : PassState g.row.M.Denot). p.connection) c.enter.ensures.same) in
    let found = asked (P own) c.args.self.now.seen c.in_ok-guard.guard c.leave.new.self c.state.result.now c.in_ok-guard.ensures.guard.0 c.state.ensures.state (ap (λ (p : PassState g.row.M.Denot). p.seen) c.leave.ensures)
    (subst (λ from. P from c.state.result.now) from_is c.in-Ok.ensures.recipients) in
    (omega arith, omega arith, found.0, found.1)
