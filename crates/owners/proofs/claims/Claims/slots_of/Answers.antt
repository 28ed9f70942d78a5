use Rattle.std.proofs.Common.{sym, ap, subst, ◌∙◌}
use Rattle.std.specs.Prelude.{Some, nat_eq}
use Rattle.std.specs.Option.{option_eq}
use Rattle.owners.specs.Registry.{Registry, IsRegistry, is_owned_slot}
use Rattle.owners.specs.Kept.{slot_owner, are_slots}
use Rattle.owners.proofs.Placed.{each_held}
use Rattle.owners.proofs.Settled.{kept_is_registry, slots_fit}
use Rattle.owners.proofs.Questions.{owned_slot}
use Rattle.owners.proofs.claims.Claims.slots_of.Goals as goal

pub owned_slots-requires : goal.owned_slots-requires
owned_slots-requires c =
    let cs = c.self.inside.claims in
    let ss = c.self.inside.slots in
    let kept_slot = c.self.invariant in
    ap are_slots c.as_slice.ensures.value ∙ slots_fit ss kept_slot.placed.count cs (each_held cs ss kept_slot.placed.held)

pub returns-clause-owned : goal.returns-clause-owned
returns-clause-owned c = λ k.
    let cs = c.self.inside.claims in
    let ss = c.self.inside.slots in
    let connection = c.args.connection in
    c.owned_slots.ensures.owned k
    ∙ ap (λ l. option_eq nat_eq (slot_owner k l) (Some connection)) c.as_slice.ensures.value
    ∙ sym (owned_slot cs ss c.self.invariant connection k)
    ∙ ap (λ (r : Registry). is_owned_slot connection r k) c.self.view_is

pub returns-clause-registry : goal.returns-clause-registry
returns-clause-registry c = subst IsRegistry c.self.view_is (kept_is_registry c.self.inside.claims c.self.inside.slots c.self.invariant)
