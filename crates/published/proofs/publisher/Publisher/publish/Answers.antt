use Rattle.std.proofs.Common.{◌≡◌, Bool, true, false, List, [], ◌∷◌, ◌++◌, sym, ap, ◌∙◌, subst}
use Rattle.std.specs.Prelude.{if◌then◌else◌}
use Rattle.program_table.specs.declared.command.Command.{Command}
use Rattle.program_table.specs.State.{State}
use Rattle.program_table.specs.Does.{is_accepted, reply_to}
use Rattle.program_table.specs.History.{after}
use Rattle.published.proofs.Refused.{accepted, refused}
use Rattle.published.proofs.publisher.Publisher.publish.Goals as goal

pub returns-in-Refused-clause-history : goal.returns-in-Refused-clause-history
returns-in-Refused-clause-history g c =
    let l = c.args.self.now.history in
    let x = c.args.command in
    let said = sym (c.answer-reply.ensures ∙ ap (λ (s : State g.row.M.Denot). reply_to s x) c.state.ensures.state) ∙ c.in-Refused.is in
    let off : is_accepted (after l) x ≡ false = refused (after l) x _ said in
    sym (ap (λ (b : Bool). if b then l ++ x ∷ [] else l) off)

pub new-requires : goal.new-requires
new-requires g c =
    let l = c.args.self.now.history in
    let x = c.args.command in
    let said = c.answer-reply.ensures ∙ ap (λ (s : State g.row.M.Denot). reply_to s x) c.state.ensures.state in
    let on : is_accepted (after l) x ≡ true = accepted (after l) x (λ refusal e. c.in_default.not-Refused refusal (said ∙ e)) in
    let at = c.front-front.ensures.copy ∙ c.published.ensures ∙ ap (λ p. p.history) c.self.view_is in
    subst (λ (h : List (Command g.row.M.Denot)). is_accepted (after h) x ≡ true) (sym at) on

pub returns-in-Ok-clause-history : goal.returns-in-Ok-clause-history
returns-in-Ok-clause-history g c =
    let l = c.args.self.now.history in
    let x = c.args.command in
    let said = c.answer-reply.ensures ∙ ap (λ (s : State g.row.M.Denot). reply_to s x) c.state.ensures.state in
    let on : is_accepted (after l) x ≡ true = accepted (after l) x (λ refusal e. c.in_default.not-Refused refusal (said ∙ e)) in
    let at = c.front-front.ensures.copy ∙ c.published.ensures ∙ ap (λ p. p.history) c.self.view_is in
    ap (λ p. p.history) c.in-Ok.ensures ∙ c.in-Some.ensures ∙ ap (λ (h : List (Command g.row.M.Denot)). h ++ x ∷ []) at
    ∙ sym (ap (λ (b : Bool). if b then l ++ x ∷ [] else l) on)
