use Rattle.std.proofs.Common.{sym, ap, subst, ◌∙◌}
use Rattle.std.specs.Prelude.{not, unwrap_or}
use Rattle.owners.specs.declared.claim.SlotClaim.{SlotClaim}
use Rattle.owners.specs.Registry.{slot_of, release_answer, after_release}
use Rattle.owners.specs.Kept.{is_slot_claim, are_slots, AreLetGo}
use Rattle.owners.proofs.Placed.{Tells, known_tells, no_slot_number}
use Rattle.owners.proofs.Settled.{kept_is_registry}
use Rattle.owners.proofs.Steps.{release_shown, slots_left, release_done}
use Rattle.owners.proofs.claims.Claims.release.Goals as goal

pub let_go-requires-clause-inside : goal.let_go-requires-clause-inside
let_go-requires-clause-inside c =
    let stays = λ (x : SlotClaim). not (is_slot_claim c.known_slot-slot.result c.args.connection x) in
    ap are_slots (c.as_slice.ensures.value ∙ c.remove.ensures) ∙ slots_left c.self.inside.claims c.self.inside.slots c.self.invariant stays

pub invariant_of-self : goal.invariant_of-self
invariant_of-self c =
    let cs = c.self.inside.claims in
    let ss = c.self.inside.slots in
    let name = c.args.name.now in
    let slot_is = c.known_slot-slot.ensures ∙ ap (λ t. unwrap_or (slot_of t ss) no_slot_number) c.as_str.ensures in
    let let_go_is = subst (λ l. AreLetGo l ss c.let_go.new.self) c.as_slice.ensures.value c.let_go.ensures in
    (release_done cs ss c.self.invariant c.known_slot-slot.result c.args.connection name slot_is c.remove.new.self c.remove.ensures c.let_go.new.self let_go_is).0

pub returns-clause-answer : goal.returns-clause-answer
returns-clause-answer c =
    let cs = c.self.inside.claims in
    let ss = c.self.inside.slots in
    let name = c.args.name.now in
    let slot_is = c.known_slot-slot.ensures ∙ ap (λ t. unwrap_or (slot_of t ss) no_slot_number) c.as_str.ensures in
    let evidence : Tells ss c.known_slot-slot.result name = subst (λ n. Tells ss n name) (sym slot_is) (known_tells cs ss c.self.invariant.placed name) in
    c.release_answer-named.ensures
    ∙ release_shown cs ss c.self.invariant c.known_slot-slot.result c.args.connection name evidence
    ∙ ap (release_answer name c.args.connection) c.self.view_is

pub returns-clause-after : goal.returns-clause-after
returns-clause-after c =
    let cs = c.self.inside.claims in
    let ss = c.self.inside.slots in
    let name = c.args.name.now in
    let slot_is = c.known_slot-slot.ensures ∙ ap (λ t. unwrap_or (slot_of t ss) no_slot_number) c.as_str.ensures in
    let let_go_is = subst (λ l. AreLetGo l ss c.let_go.new.self) c.as_slice.ensures.value c.let_go.ensures in
    (release_done cs ss c.self.invariant c.known_slot-slot.result c.args.connection name slot_is c.remove.new.self c.remove.ensures c.let_go.new.self let_go_is).1
    ∙ ap (after_release name c.args.connection) c.self.view_is

pub returns-clause-registry : goal.returns-clause-registry
returns-clause-registry c =
    let cs = c.self.inside.claims in
    let ss = c.self.inside.slots in
    let name = c.args.name.now in
    let slot_is = c.known_slot-slot.ensures ∙ ap (λ t. unwrap_or (slot_of t ss) no_slot_number) c.as_str.ensures in
    let let_go_is = subst (λ l. AreLetGo l ss c.let_go.new.self) c.as_slice.ensures.value c.let_go.ensures in
    kept_is_registry c.remove.new.self c.let_go.new.self (release_done cs ss c.self.invariant c.known_slot-slot.result c.args.connection name slot_is c.remove.new.self c.remove.ensures c.let_go.new.self let_go_is).0
