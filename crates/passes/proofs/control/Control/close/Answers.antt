use Rattle.std.proofs.Common.{◌≡◌, ◌∙◌, ◌++◌, ◌∷◌, [], List, ap, sym, subst, true, false, ℕ, Result, Ok, Err}
use Rattle.std.proofs.lemmas.Result.{err_from_is_err_and}
use Rattle.program_table.specs.declared.command.Command.{Command}
use Rattle.program_table.specs.declared.command.Command.TheVariants.{Close}
use Rattle.program_table.specs.declared.command.Reply.{Reply}
use Rattle.published.specs.Publication.{Publication}
use Rattle.passes.specs.declared.error.BusError.{BusError}
use Rattle.passes.specs.Passes.{PassState}
use Rattle.passes.specs.Calls.{Answers}
use Rattle.passes.specs.Theirs.{HaveTurns}
use Rattle.passes.proofs.Admitted.{answers_admitted}
use Rattle.passes.proofs.Closing.{close_noted, close_shuts_out}
use Rattle.passes.proofs.Theirs.{turns_left, turns_stay}
use Rattle.passes.proofs.control.Control.close.Goals as goal

pub returns-clause-answer : goal.returns-clause-answer
returns-clause-answer g c =
    let h = c.in_ok-admit.ensures in
    let v = c.args.pass.now in
    let b = c.args.self.now in
    let closes : Command g.row.M.Denot = Close c.connection-connection.result in
    let P : Publication g.row.M.Denot → Type 0 = λ p. Answers false c.admit.new.pass p closes (Ok c.in_ok-reply.reply) c.publish.new.pass c.publish.new.publisher in
    let published = answers_admitted v c.admit.new.pass c.publish.new.pass b c.publish.new.publisher closes (Ok c.in_ok-reply.reply) h.3 h.2.legal h.0 h.1 (subst P c.self.view_is c.in_ok-reply.ensures) in
    let same : c.connection-connection.result ≡ v.connection = c.connection-connection.ensures ∙ ap (λ (p : PassState g.row.M.Denot). p.connection) h.1 in
    let Q : ℕ → Type 0 = λ n. Answers true v b (Close n) (Ok c.in_ok-reply.reply) c.close.new.self c.publish.new.publisher in
    subst Q same (close_noted v c.publish.new.pass c.close.new.self b c.publish.new.publisher closes c.in_ok-reply.reply published c.close.ensures)

pub invariant_of-self : goal.invariant_of-self
invariant_of-self g c = turns_stay g.M.Mailbox.outbox_of _ _ _ _ _ _ _ c.in_err-reply.ensures c.self.invariant

pub invariant_of-self-2 : goal.invariant_of-self-2
invariant_of-self-2 g c =
    let outbox_of = g.M.Mailbox.outbox_of in
    let l = c.self.inside.publisher.value.history in
    let number = c.connection-connection.result in
    let done = c.in_ok-reply.ensures.0 in
    let is : c.publish.new.publisher.history ≡ l ++ Close number ∷ [] = done.published in
    let P : List (Command g.row.M.Denot) → Type 0 = λ h. HaveTurns outbox_of h c.remove.new.self.turns in
    subst P (sym is) (turns_left outbox_of l number c.self.inside.turns.turns c.remove.new.self.turns done.accepted c.remove.ensures.gone c.self.invariant)

pub returns-in_err-reply-clause-answer : goal.returns-in_err-reply-clause-answer
returns-in_err-reply-clause-answer g c =
    let h = c.in_ok-admit.ensures in
    let v = c.args.pass.now in
    let b = c.args.self.now in
    let closes : Command g.row.M.Denot = Close c.connection-connection.result in
    let refused : Result Reply BusError = Err c.in_err-reply.field-0.0 in
    let P : Publication g.row.M.Denot → Type 0 = λ p. Answers false c.admit.new.pass p closes refused c.publish.new.pass c.publish.new.publisher in
    let same : c.connection-connection.result ≡ v.connection = c.connection-connection.ensures ∙ ap (λ (p : PassState g.row.M.Denot). p.connection) h.1 in
    let Q : ℕ → Type 0 = λ n. Answers true v b (Close n) refused c.publish.new.pass c.publish.new.publisher in
    let p = err_from_is_err_and c.from_residual-in_err-reply.result c.from_residual-in_err-reply.ensures.1 in
    rw (p.1, p.2) (subst Q same (answers_admitted v c.admit.new.pass c.publish.new.pass b c.publish.new.publisher closes refused h.3 h.2.legal h.0 h.1 (subst P c.self.view_is c.in_err-reply.ensures)))

pub returns-in_err-reply-clause-shut : goal.returns-in_err-reply-clause-shut
returns-in_err-reply-clause-shut g c =
    let p = err_from_is_err_and c.from_residual-in_err-reply.result c.from_residual-in_err-reply.ensures.1 in
    rw p.1 (close_shuts_out c.admit.new.pass c.publish.new.pass _ _ c.connection-connection.result c.in_err-reply.field-0.0 c.in_err-reply.ensures)
