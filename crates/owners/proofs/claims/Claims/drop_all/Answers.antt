use Rattle.std.proofs.Common.{◌≡◌, false, sym, ap, subst, ◌∙◌}
use Rattle.std.specs.Prelude.{not}
use Rattle.std.specs.List.{list_any}
use Rattle.owners.specs.declared.claim.SlotClaim.{SlotClaim}
use Rattle.owners.specs.Registry.{IsRegistry, after_drop_all}
use Rattle.owners.specs.Kept.{is_by, are_slots, AreLetGo}
use Rattle.owners.proofs.Settled.{kept_is_registry}
use Rattle.owners.proofs.Steps.{slots_left, drop_all_done, nothing_dropped}
use Rattle.owners.proofs.claims.Claims.drop_all.Goals as goal

pub returns-then-not-has_any-clause-after : goal.returns-then-not-has_any-clause-after
returns-then-not-has_any-clause-after c =
    let cs = c.self.inside.claims in
    let none : list_any (is_by c.args.connection) cs ≡ false = ap (list_any (is_by c.args.connection)) (sym c.as_slice.ensures.value) ∙ sym c.has_any.ensures ∙ c.if-not-has_any.true in
    sym c.self.view_is ∙ nothing_dropped cs c.self.inside.slots c.self.invariant c.args.connection none ∙ ap (after_drop_all c.args.connection) c.self.view_is

pub returns-then-not-has_any-clause-registry : goal.returns-then-not-has_any-clause-registry
returns-then-not-has_any-clause-registry c = subst IsRegistry c.self.view_is (kept_is_registry c.self.inside.claims c.self.inside.slots c.self.invariant)

pub let_go-requires-clause-inside : goal.let_go-requires-clause-inside
let_go-requires-clause-inside c =
    ap are_slots (c.as_slice-2.ensures.value ∙ c.remove.ensures) ∙ slots_left c.self.inside.claims c.self.inside.slots c.self.invariant (λ (x : SlotClaim). not (is_by c.args.connection x))

pub invariant_of-self : goal.invariant_of-self
invariant_of-self c =
    let cs = c.self.inside.claims in
    let ss = c.self.inside.slots in
    let let_go_is = subst (λ l. AreLetGo l ss c.let_go.new.self) c.as_slice-2.ensures.value c.let_go.ensures in
    (drop_all_done cs ss c.self.invariant c.args.connection c.remove.new.self c.remove.ensures c.let_go.new.self let_go_is).0

pub returns-clause-after : goal.returns-clause-after
returns-clause-after c =
    let cs = c.self.inside.claims in
    let ss = c.self.inside.slots in
    let let_go_is = subst (λ l. AreLetGo l ss c.let_go.new.self) c.as_slice-2.ensures.value c.let_go.ensures in
    (drop_all_done cs ss c.self.invariant c.args.connection c.remove.new.self c.remove.ensures c.let_go.new.self let_go_is).1 ∙ ap (after_drop_all c.args.connection) c.self.view_is

pub returns-clause-registry : goal.returns-clause-registry
returns-clause-registry c =
    let cs = c.self.inside.claims in
    let ss = c.self.inside.slots in
    let let_go_is = subst (λ l. AreLetGo l ss c.let_go.new.self) c.as_slice-2.ensures.value c.let_go.ensures in
    kept_is_registry c.remove.new.self c.let_go.new.self (drop_all_done cs ss c.self.invariant c.args.connection c.remove.new.self c.remove.ensures c.let_go.new.self let_go_is).0
