use Rattle.std.proofs.Common.{◌≡◌, sym, ap, subst, ◌∙◌}
use Rattle.std.specs.Prelude.{find, option_map, unwrap_or}
use Rattle.owners.specs.declared.claim.SlotClaim.{SlotClaim}
use Rattle.owners.specs.Queues.{owner_of}
use Rattle.owners.specs.Registry.{Registry, IsRegistry, slot_of}
use Rattle.owners.specs.Kept.{is_on_slot}
use Rattle.owners.proofs.Placed.{Tells, known_tells, no_slot_number, each_held}
use Rattle.owners.proofs.Settled.{kept_is_registry}
use Rattle.owners.proofs.Steps.{owner_shown}
use Rattle.owners.proofs.claims.Claims.owner_of.Goals as goal

pub returns-clause-owner : goal.returns-clause-owner
returns-clause-owner c =
    let cs = c.self.inside.claims in
    let ss = c.self.inside.slots in
    let name = c.args.name.now in
    let kept_slot = c.self.invariant in
    let slot = c.known_slot-slot.result in
    let slot_is : slot ≡ unwrap_or (slot_of name ss) no_slot_number = c.known_slot-slot.ensures in
    let evidence : Tells ss slot name = subst (λ n. Tells ss n name) (sym slot_is) (known_tells cs ss kept_slot.placed name) in
    let first = c.first_on.ensures ∙ ap (find (is_on_slot slot)) c.as_slice.ensures.value in
    c.connection_of.ensures ∙ ap (option_map (λ (x : SlotClaim). x.connection)) first
    ∙ sym (owner_shown ss slot name evidence cs (each_held cs ss kept_slot.placed.held))
    ∙ ap (λ (r : Registry). owner_of name r.claims) c.self.view_is

pub returns-clause-registry : goal.returns-clause-registry
returns-clause-registry c = subst IsRegistry c.self.view_is (kept_is_registry c.self.inside.claims c.self.inside.slots c.self.invariant)
