use Rattle.std.proofs.Common.{◌∙◌, ap}
use Rattle.std.specs.Prelude.{Result, Err}
use Rattle.program_table.specs.declared.command.Reply.{Reply}
use Rattle.program_table.specs.declared.refusal.Refusal.{Refusal}
use Rattle.program_table.specs.Answers.{request_answer}
use Rattle.program_table.proofs.Kept.{reply_to_claim, request_replied}
use Rattle.program_table.proofs.registration_table.RegistrationTable.request_answer.Goals as goal

pub returns-in-Ok : goal.returns-in-Ok
returns-in-Ok c =
    ap reply_to_claim c.in-Ok.ensures.answer ∙ request_replied c.args.name.now c.args.connection c.args.flags c.self.inside.names c.self.inside.entries c.self.invariant
    ∙ ap (request_answer c.args.name.now c.args.connection c.args.flags) c.self.view_is

pub returns-in-Err : goal.returns-in-Err
returns-in-Err c =
    ap (λ (r : Refusal). let e : Result Reply Refusal = Err r in e) c.claim_refusal.ensures
    ∙ ap reply_to_claim c.in-Err.ensures.answer ∙ request_replied c.args.name.now c.args.connection c.args.flags c.self.inside.names c.self.inside.entries c.self.invariant
    ∙ ap (request_answer c.args.name.now c.args.connection c.args.flags) c.self.view_is
