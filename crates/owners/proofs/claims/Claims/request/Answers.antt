use Rattle.std.proofs.Common.{ap, subst, ◌∙◌}
use Rattle.std.specs.Prelude.{slice_get}
use Rattle.owners.specs.Registry.{IsRegistry, rules_at, after_request}
use Rattle.owners.specs.Plan.{IsPlan}
use Rattle.owners.proofs.Placed.{next_tells}
use Rattle.owners.proofs.Settled.{kept_is_registry}
use Rattle.owners.proofs.Steps.{request_planned}
use Rattle.owners.proofs.claims.Claims.request.Goals as goal

pub returns-in_err-plan-clause-registry : goal.returns-in_err-plan-clause-registry
returns-in_err-plan-clause-registry c = subst IsRegistry c.self.view_is (kept_is_registry c.self.inside.claims c.self.inside.slots c.self.invariant)

pub hold-requires : goal.hold-requires
hold-requires c =
    let cs = c.self.inside.claims in
    let ss = c.self.inside.slots in
    let name = c.args.name.now in
    let plan = c.in_ok-plan.plan in
    let plan_is : IsPlan cs ss name c.args.connection c.args.flags plan = c.in_ok-plan.ensures in
    (next_tells cs ss c.self.invariant.placed name plan.slot plan_is.slot_is).1

pub invariant_of-self : goal.invariant_of-self
invariant_of-self c =
    let cs = c.self.inside.claims in
    let ss = c.self.inside.slots in
    let name = c.args.name.now in
    let plan = c.in_ok-plan.plan in
    let plan_is : IsPlan cs ss name c.args.connection c.args.flags plan = c.in_ok-plan.ensures in
    let rules_is = c.rules_at-rules.ensures ∙ ap (λ l. rules_at (slice_get l plan.slot)) c.as_slice.ensures.value in
    (request_planned cs ss c.self.invariant name c.args.connection c.args.flags plan plan_is c.rules_at-rules.result rules_is c.do_step.new.claims c.do_step.ensures c.hold.new.self c.hold.ensures.slots).0

pub returns-clause-after : goal.returns-clause-after
returns-clause-after c =
    let cs = c.self.inside.claims in
    let ss = c.self.inside.slots in
    let name = c.args.name.now in
    let plan = c.in_ok-plan.plan in
    let plan_is : IsPlan cs ss name c.args.connection c.args.flags plan = c.in_ok-plan.ensures in
    let rules_is = c.rules_at-rules.ensures ∙ ap (λ l. rules_at (slice_get l plan.slot)) c.as_slice.ensures.value in
    (request_planned cs ss c.self.invariant name c.args.connection c.args.flags plan plan_is c.rules_at-rules.result rules_is c.do_step.new.claims c.do_step.ensures c.hold.new.self c.hold.ensures.slots).1
    ∙ ap (after_request name c.args.connection c.args.flags) c.self.view_is

pub returns-clause-registry : goal.returns-clause-registry
returns-clause-registry c =
    let cs = c.self.inside.claims in
    let ss = c.self.inside.slots in
    let name = c.args.name.now in
    let plan = c.in_ok-plan.plan in
    let plan_is : IsPlan cs ss name c.args.connection c.args.flags plan = c.in_ok-plan.ensures in
    let rules_is = c.rules_at-rules.ensures ∙ ap (λ l. rules_at (slice_get l plan.slot)) c.as_slice.ensures.value in
    kept_is_registry c.do_step.new.claims c.hold.new.self (request_planned cs ss c.self.invariant name c.args.connection c.args.flags plan plan_is c.rules_at-rules.result rules_is c.do_step.new.claims c.do_step.ensures c.hold.new.self c.hold.ensures.slots).0
