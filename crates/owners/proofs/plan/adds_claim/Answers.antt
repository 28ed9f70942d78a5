use Rattle.std.proofs.Common.{◌≡◌, ℕ, sym, ap, ◌∙◌, length, arith}
use Rattle.std.specs.Prelude.{nat_lt}
use Rattle.std.specs.List.{list_any}
use Rattle.owners.specs.Queues.{after_requesting}
use Rattle.owners.specs.Kept.{registry, named_claim, is_slot_claim, step_done, is_over}
use Rattle.owners.specs.Plan.{claim_at}
use Rattle.owners.proofs.Lists.{length-map}
use Rattle.owners.proofs.Requested.{step_for, step_fits}
use Rattle.owners.proofs.Steps.{request_length}
use Rattle.owners.proofs.plan.adds_claim.Goals as goal

pub returns-in-Some : goal.returns-in-Some
returns-in-Some c =
    let cs = c.args.claims.now in
    let ss = c.args.slots.now in
    let name = c.args.name.now in
    let connection = c.args.connection in
    let flags = c.args.flags in
    let choice = c.in-Some.ensures in
    let slot = c.in-Some.choice.slot in
    let claim = claim_at slot connection flags in
    let n = length cs in
    let fits : nat_lt n (length (step_done (step_for claim cs) claim cs)) ≡ is_over n (step_for claim cs) (list_any (is_slot_claim slot connection) cs) n = step_fits n claim cs (omega arith) in
    let now : length (registry cs ss).claims ≡ n = length-map (named_claim ss) cs in
    let then : length (after_requesting name connection flags (registry cs ss).claims) ≡ length (step_done (step_for claim cs) claim cs) = request_length cs ss c.requires claim name choice.slot_is in
    let over_is : c.is_over.result ≡ is_over n (step_for claim cs) (list_any (is_slot_claim slot connection) cs) n =
    let step_is : c.in-Some.choice.step ≡ step_for claim cs = choice.step_is in
    let waits_is = choice.waits_is in
    cc in
    rw choice.slot_is (over_is ∙ sym fits ∙ ap (λ (k : ℕ). nat_lt k (length (step_done (step_for claim cs) claim cs))) (sym now) ∙ ap (nat_lt (length (registry cs ss).claims)) (sym then))
