use Rattle.std.proofs.Common.{◌≡◌, sym, ap, subst, ◌∙◌}
use Rattle.std.specs.Prelude.{unwrap_or}
use Rattle.owners.specs.Queues.{queue_of}
use Rattle.owners.specs.Registry.{Registry, IsRegistry, slot_of}
use Rattle.owners.proofs.Placed.{Tells, known_tells, no_slot_number, each_held}
use Rattle.owners.specs.Kept.{slot_queue}
use Rattle.owners.proofs.Questions.{queue_shown}
use Rattle.owners.proofs.Settled.{kept_is_registry}
use Rattle.owners.proofs.claims.Claims.queue_of.Goals as goal

pub returns-clause-queue : goal.returns-clause-queue
returns-clause-queue c =
    let cs = c.self.inside.claims in
    let ss = c.self.inside.slots in
    let name = c.args.name.now in
    let kept_slot = c.self.invariant in
    let slot = c.known_slot-slot.result in
    let slot_is : slot ≡ unwrap_or (slot_of name ss) no_slot_number = c.known_slot-slot.ensures in
    let evidence : Tells ss slot name = subst (λ n. Tells ss n name) (sym slot_is) (known_tells cs ss kept_slot.placed name) in
    c.new.ensures ∙ ap (slot_queue slot) c.as_slice.ensures.value
    ∙ queue_shown ss slot name evidence cs (each_held cs ss kept_slot.placed.held)
    ∙ ap (λ (r : Registry). queue_of name r.claims) c.self.view_is

pub returns-clause-registry : goal.returns-clause-registry
returns-clause-registry c = subst IsRegistry c.self.view_is (kept_is_registry c.self.inside.claims c.self.inside.slots c.self.invariant)
