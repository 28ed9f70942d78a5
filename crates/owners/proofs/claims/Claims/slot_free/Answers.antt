use Rattle.std.proofs.Common.{◌≡◌, ◌<◌, sym, ap, subst, ◌∙◌, arith}
use Rattle.std.specs.Prelude.{Some, slice_get, unwrap_or}
use Rattle.owners.specs.Registry.{Registry, slot_of, slot_next, rules_of, rules_at, after_slot_free}
use Rattle.owners.specs.Kept.{are_slots, AreLetGo}
use Rattle.owners.proofs.Placed.{next_tells, no_slot_number, each_held}
use Rattle.owners.proofs.Settled.{kept_is_registry, slots_fit}
use Rattle.owners.proofs.Steps.{slot_free_done}
use Rattle.owners.proofs.Questions.{known_is_next}
use Rattle.owners.proofs.claims.Claims.slot_free.Goals as goal

pub overflow_sub-rules : goal.overflow_sub-rules
overflow_sub-rules c =
    let cs = c.self.inside.claims in
    let ss = c.self.inside.slots in
    let name = c.args.name.now in
    let slot = c.known_slot-slot.result in
    let slot_is = c.known_slot-slot.ensures ∙ ap (λ t. unwrap_or (slot_of t ss) no_slot_number) c.as_str.ensures in
    let has_rules : 0 < rules_of name ss = subst (λ (r : Registry). 0 < rules_of name r.slots) (sym c.self.view_is) c.requires in
    let next : slot_next name ss ≡ Some slot = known_is_next ss name slot slot_is has_rules in
    let evidence = next_tells cs ss c.self.invariant.placed name slot next in
    let rules_is : c.rules_at-rules.result ≡ rules_of name ss = c.rules_at-rules.ensures ∙ ap (λ l. rules_at (slice_get l slot)) c.as_slice.ensures.value ∙ sym evidence.2 in
    omega (arith, has_rules)

pub hold-requires : goal.hold-requires
hold-requires c =
    let cs = c.self.inside.claims in
    let ss = c.self.inside.slots in
    let name = c.args.name.now in
    let slot = c.known_slot-slot.result in
    let slot_is = c.known_slot-slot.ensures ∙ ap (λ t. unwrap_or (slot_of t ss) no_slot_number) c.as_str.ensures in
    let has_rules : 0 < rules_of name ss = subst (λ (r : Registry). 0 < rules_of name r.slots) (sym c.self.view_is) c.requires in
    let next : slot_next name ss ≡ Some slot = known_is_next ss name slot slot_is has_rules in
    (next_tells cs ss c.self.invariant.placed name slot next).1

pub let_go-requires-clause-inside : goal.let_go-requires-clause-inside
let_go-requires-clause-inside c =
    ap are_slots c.as_slice-2.ensures.value ∙ slots_fit c.self.inside.slots c.self.invariant.placed.count c.self.inside.claims (each_held c.self.inside.claims c.self.inside.slots c.self.invariant.placed.held)

pub invariant_of-self : goal.invariant_of-self
invariant_of-self c =
    let cs = c.self.inside.claims in
    let ss = c.self.inside.slots in
    let name = c.args.name.now in
    let slot = c.known_slot-slot.result in
    let slot_is = c.known_slot-slot.ensures ∙ ap (λ t. unwrap_or (slot_of t ss) no_slot_number) c.as_str.ensures in
    let has_rules : 0 < rules_of name ss = subst (λ (r : Registry). 0 < rules_of name r.slots) (sym c.self.view_is) c.requires in
    let next : slot_next name ss ≡ Some slot = known_is_next ss name slot slot_is has_rules in
    let rules_is = c.rules_at-rules.ensures ∙ ap (λ l. rules_at (slice_get l slot)) c.as_slice.ensures.value in
    let let_go_is = subst (λ l. AreLetGo l c.hold.new.self c.let_go.new.self) c.as_slice-2.ensures.value c.let_go.ensures in
    (slot_free_done cs ss c.self.invariant slot name next c.rules_at-rules.result rules_is c.hold.new.self c.hold.ensures.slots c.let_go.new.self let_go_is).0

pub returns-clause-after : goal.returns-clause-after
returns-clause-after c =
    let cs = c.self.inside.claims in
    let ss = c.self.inside.slots in
    let name = c.args.name.now in
    let slot = c.known_slot-slot.result in
    let slot_is = c.known_slot-slot.ensures ∙ ap (λ t. unwrap_or (slot_of t ss) no_slot_number) c.as_str.ensures in
    let has_rules : 0 < rules_of name ss = subst (λ (r : Registry). 0 < rules_of name r.slots) (sym c.self.view_is) c.requires in
    let next : slot_next name ss ≡ Some slot = known_is_next ss name slot slot_is has_rules in
    let rules_is = c.rules_at-rules.ensures ∙ ap (λ l. rules_at (slice_get l slot)) c.as_slice.ensures.value in
    let let_go_is = subst (λ l. AreLetGo l c.hold.new.self c.let_go.new.self) c.as_slice-2.ensures.value c.let_go.ensures in
    (slot_free_done cs ss c.self.invariant slot name next c.rules_at-rules.result rules_is c.hold.new.self c.hold.ensures.slots c.let_go.new.self let_go_is).1 ∙ ap (after_slot_free name) c.self.view_is

pub returns-clause-registry : goal.returns-clause-registry
returns-clause-registry c =
    let cs = c.self.inside.claims in
    let ss = c.self.inside.slots in
    let name = c.args.name.now in
    let slot = c.known_slot-slot.result in
    let slot_is = c.known_slot-slot.ensures ∙ ap (λ t. unwrap_or (slot_of t ss) no_slot_number) c.as_str.ensures in
    let has_rules : 0 < rules_of name ss = subst (λ (r : Registry). 0 < rules_of name r.slots) (sym c.self.view_is) c.requires in
    let next : slot_next name ss ≡ Some slot = known_is_next ss name slot slot_is has_rules in
    let rules_is = c.rules_at-rules.ensures ∙ ap (λ l. rules_at (slice_get l slot)) c.as_slice.ensures.value in
    let let_go_is = subst (λ l. AreLetGo l c.hold.new.self c.let_go.new.self) c.as_slice-2.ensures.value c.let_go.ensures in
    kept_is_registry cs c.let_go.new.self (slot_free_done cs ss c.self.invariant slot name next c.rules_at-rules.result rules_is c.hold.new.self c.hold.ensures.slots c.let_go.new.self let_go_is).0
