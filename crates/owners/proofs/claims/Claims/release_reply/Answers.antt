use Rattle.std.proofs.Common.{◌≡◌, sym, ap, subst, ◌∙◌}
use Rattle.std.specs.Prelude.{unwrap_or}
use Rattle.owners.specs.Registry.{IsRegistry, slot_of, release_answer}
use Rattle.owners.proofs.Placed.{Tells, known_tells, no_slot_number}
use Rattle.owners.proofs.Settled.{kept_is_registry}
use Rattle.owners.proofs.Steps.{release_shown}
use Rattle.owners.proofs.claims.Claims.release_reply.Goals as goal

pub returns-clause-answer : goal.returns-clause-answer
returns-clause-answer c =
    let cs = c.self.inside.claims in
    let ss = c.self.inside.slots in
    let name = c.args.name.now in
    let kept_slot = c.self.invariant in
    let slot = c.known_slot-slot.result in
    let slot_is : slot ≡ unwrap_or (slot_of name ss) no_slot_number = c.known_slot-slot.ensures ∙ ap (λ t. unwrap_or (slot_of t ss) no_slot_number) c.as_str.ensures in
    let evidence : Tells ss slot name = subst (λ n. Tells ss n name) (sym slot_is) (known_tells cs ss kept_slot.placed name) in
    c.release_answer.ensures
    ∙ release_shown cs ss kept_slot slot c.args.connection name evidence
    ∙ ap (release_answer name c.args.connection) c.self.view_is

pub returns-clause-registry : goal.returns-clause-registry
returns-clause-registry c = subst IsRegistry c.self.view_is (kept_is_registry c.self.inside.claims c.self.inside.slots c.self.invariant)
