use Rattle.std.proofs.Common.{◌≡◌, ap, ◌∙◌}
use Rattle.sessions.proofs.greeting.let_in.Goals as goal

pub returns-in-Ok-clause-published : goal.returns-in-Ok-clause-published
returns-in-Ok-clause-published g c =
    let joined = c.in-Ok.ensures.joins in
    let same : c.newcomer.inside.own.outbox ≡ c.args.newcomer.outbox = cc in
    (joined.1, joined.3 ∙ same, ap (λ control. control.history) c.register-registered.ensures.control ∙ joined.4.0.published)
