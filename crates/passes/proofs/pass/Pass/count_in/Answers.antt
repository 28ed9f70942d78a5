use Rattle.std.proofs.Common.{◌≡◌, ◌≢◌, ◌⊎◌, inl, inr, ◌∙◌, ◌+◌, ◌<◌, ◌≤◌, zero, ℕ, List, Option, Some, None, length, ap, sym, subst, arith}
use mathlib.Core.List.{IsPrefix}
use Rattle.program_table.specs.declared.command.Command.{Command}
use Rattle.program_table.specs.History.{own_commands}
use Rattle.routing.specs.SenderView.{SenderView}
use Rattle.passes.specs.Passes.{PassState}
use Rattle.passes.specs.Sending.{SendsFor, recipient_seats_in}
use Rattle.passes.specs.Theirs.{AreTheirs}
use Rattle.passes.proofs.Theirs.{theirs_later}
use Rattle.passes.proofs.pass.Pass.count_in.Goals as goal

-- the sender stays that of the connection
sends_still : (old new : ℕ) (sender : Option SenderView) → SendsFor old sender → (old ≡ 0) ⊎ (new ≡ old) → SendsFor new sender
sends_still old new None h same = tt
sends_still old new (Some s) (origin, there) (inl none) = absurd (there none)
sends_still old new (Some s) (origin, there) (inr same) = (origin ∙ sym same, λ e. there (sym same ∙ e))

pub invariant_of-self : goal.invariant_of-self
invariant_of-self g c =
    let M = g.row.M.Denot in
    let at = ap (λ (v : PassState M). v.connection) c.self.view_is in
    let seen = ap (λ (v : PassState M). v.seen) c.self.view_is in
    let took = ap (λ (v : PassState M). v.took) c.self.view_is in
    let told = c.take_over.ensures in
    let P : List (Command M) → Type 0 = λ l. c.self.inside.took + 1 ≤ length (own_commands c.args.connection l) in
    let Q : ℕ → Type 0 = λ n. n + 1 ≤ length (own_commands c.args.connection c.args.told_history) in
    let B : List (Command M) → Type 0 = λ l. IsPrefix l c.take_over.new.self in
    let C : List (Command M) → Type 0 = λ l. IsPrefix c.args.self.now.seen l in
    let S : ℕ → Type 0 = λ n. (n ≡ 0) ⊎ (c.args.connection ≡ n) in (
      record {
        none = λ e. absurd (c.requires.number e);
        some = λ e. omega arith;
        own = subst P (sym told) (subst Q (sym took) c.requires.own);
      },
      sends_still c.self.inside.connection c.args.connection c.self.inside.sender c.self.invariant.1 (subst S (sym at) c.requires.same),
      theirs_later g.M.Mailbox.outbox_of c.self.inside.history_reader c.take_over.new.self (recipient_seats_in c.self.inside.sender) (subst B (sym seen) (subst C (sym told) c.requires.begins)) c.self.invariant.2,
    )
