use Rattle.std.proofs.Common.{◌≡◌, sym, ap, subst, ◌∙◌, arith}
use Rattle.std.specs.Prelude.{Some, slice_get}
use Rattle.owners.specs.Registry.{Registry, IsRegistry, slot_next, rules_of, rules_at, after_slot_for}
use Rattle.owners.proofs.Placed.{next_tells}
use Rattle.owners.proofs.Settled.{kept_is_registry}
use Rattle.owners.proofs.Steps.{slot_for_done}
use Rattle.owners.proofs.claims.Claims.slot_for.Goals as goal

pub returns-in_default-clause-registry : goal.returns-in_default-clause-registry
returns-in_default-clause-registry c = subst IsRegistry c.self.view_is (kept_is_registry c.self.inside.claims c.self.inside.slots c.self.invariant)

pub overflow_add-rules : goal.overflow_add-rules
overflow_add-rules c =
    let cs = c.self.inside.claims in
    let ss = c.self.inside.slots in
    let name = c.args.name.now in
    let slot = c.in-Some.slot in
    let next : slot_next name ss ≡ Some slot = sym (c.in-Some.ensures ∙ ap (λ t. slot_next t ss) c.as_str.ensures) in
    let evidence = next_tells cs ss c.self.invariant.placed name slot next in
    let rules_is : c.rules_at-rules.result ≡ rules_of name ss = c.rules_at-rules.ensures ∙ ap (λ l. rules_at (slice_get l slot)) c.as_slice.ensures.value ∙ sym evidence.2 in
    let bound : rules_of name ss ≡ rules_of name c.args.self.now.slots = ap (λ (r : Registry). rules_of name r.slots) c.self.view_is in
    omega (arith, c.requires)

pub hold-requires : goal.hold-requires
hold-requires c =
    let cs = c.self.inside.claims in
    let ss = c.self.inside.slots in
    let name = c.args.name.now in
    let slot = c.in-Some.slot in
    let next : slot_next name ss ≡ Some slot = sym (c.in-Some.ensures ∙ ap (λ t. slot_next t ss) c.as_str.ensures) in
    (next_tells cs ss c.self.invariant.placed name slot next).1

pub invariant_of-self : goal.invariant_of-self
invariant_of-self c =
    let cs = c.self.inside.claims in
    let ss = c.self.inside.slots in
    let name = c.args.name.now in
    let slot = c.in-Some.slot in
    let next : slot_next name ss ≡ Some slot = sym (c.in-Some.ensures ∙ ap (λ t. slot_next t ss) c.as_str.ensures) in
    let rules_is = c.rules_at-rules.ensures ∙ ap (λ l. rules_at (slice_get l slot)) c.as_slice.ensures.value in
    (slot_for_done cs ss c.self.invariant slot name next c.rules_at-rules.result rules_is c.hold.new.self c.hold.ensures.slots).0

pub returns-clause-after : goal.returns-clause-after
returns-clause-after c =
    let cs = c.self.inside.claims in
    let ss = c.self.inside.slots in
    let name = c.args.name.now in
    let slot = c.in-Some.slot in
    let next : slot_next name ss ≡ Some slot = sym (c.in-Some.ensures ∙ ap (λ t. slot_next t ss) c.as_str.ensures) in
    let rules_is = c.rules_at-rules.ensures ∙ ap (λ l. rules_at (slice_get l slot)) c.as_slice.ensures.value in
    (slot_for_done cs ss c.self.invariant slot name next c.rules_at-rules.result rules_is c.hold.new.self c.hold.ensures.slots).1 ∙ ap (after_slot_for name) c.self.view_is

pub returns-clause-registry : goal.returns-clause-registry
returns-clause-registry c =
    let cs = c.self.inside.claims in
    let ss = c.self.inside.slots in
    let name = c.args.name.now in
    let slot = c.in-Some.slot in
    let next : slot_next name ss ≡ Some slot = sym (c.in-Some.ensures ∙ ap (λ t. slot_next t ss) c.as_str.ensures) in
    let rules_is = c.rules_at-rules.ensures ∙ ap (λ l. rules_at (slice_get l slot)) c.as_slice.ensures.value in
    kept_is_registry cs c.hold.new.self (slot_for_done cs ss c.self.invariant slot name next c.rules_at-rules.result rules_is c.hold.new.self c.hold.ensures.slots).0
