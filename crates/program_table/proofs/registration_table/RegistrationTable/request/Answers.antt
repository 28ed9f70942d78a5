use Rattle.std.proofs.Common.{◌≡◌, true, ◌∙◌, ap}
use Rattle.std.specs.Prelude.{is_ok}
use Rattle.program_table.specs.Registrations.{Registrations, with_request}
use Rattle.program_table.specs.Answers.{request_answer}
use Rattle.program_table.specs.Ties.{registrations_of}
use Rattle.program_table.proofs.Adding.{requested_tie, requested_view}
use Rattle.program_table.proofs.registration_table.RegistrationTable.request.Goals as goal

pub invariant_of-self : goal.invariant_of-self
invariant_of-self c =
    let accepted : is_ok (request_answer c.args.name.now c.args.connection c.args.flags (registrations_of c.self.inside.names c.self.inside.entries)) ≡ true =
    ap (λ (r : Registrations). is_ok (request_answer c.args.name.now c.args.connection c.args.flags r)) c.self.view_is ∙ c.requires in
    requested_tie c.args.name.now c.args.connection c.args.flags c.self.inside.names c.request.new.self c.self.inside.entries c.self.invariant accepted c.request.ensures.after c.request.ensures.registry

pub returns : goal.returns
returns c =
    let accepted : is_ok (request_answer c.args.name.now c.args.connection c.args.flags (registrations_of c.self.inside.names c.self.inside.entries)) ≡ true =
    ap (λ (r : Registrations). is_ok (request_answer c.args.name.now c.args.connection c.args.flags r)) c.self.view_is ∙ c.requires in
    requested_view c.args.name.now c.args.connection c.args.flags c.self.inside.names c.request.new.self c.self.inside.entries c.self.invariant accepted c.request.ensures.after
    ∙ ap (with_request c.args.name.now c.args.connection c.args.flags) c.self.view_is
