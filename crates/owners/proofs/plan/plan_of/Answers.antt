use Rattle.std.proofs.lemmas.Bool.{ltb-false}
use Rattle.std.proofs.Common.{◌≤◌, ◌≡◌, ℕ, true, false, sym, ap, subst, ◌∙◌, length}
use Rattle.std.specs.Prelude.{find, option_map, nat_lt}
use Rattle.std.specs.List.{list_any}
use Rattle.owners.specs.declared.claim.SlotClaim.{SlotClaim}
use Rattle.owners.specs.declared.step.Step.{Step}
use Rattle.owners.specs.declared.answer.NameReply.{NameReply}
use Rattle.owners.specs.Registry.{max_claims}
use Rattle.owners.specs.Kept.{is_on_slot, is_slot_claim, slot_owner, step_done, is_over, reply_of, change_for}
use Rattle.owners.specs.Plan.{claim_at}
use Rattle.owners.proofs.Requested.{step_for, step_fits}
use Rattle.owners.proofs.Steps.{request_answered}
use Rattle.owners.proofs.plan.plan_of.Goals as goal

pub returns-then-is_over : goal.returns-then-is_over
returns-then-is_over c =
    let cs = c.args.claims.now in
    let choice = c.in-Some.ensures in
    let slot = c.in-Some.choice.slot in
    let claim = claim_at slot c.args.connection c.args.flags in
    let step_is : c.in-Some.choice.step ≡ step_for claim cs = choice.step_is in
    let waits_is = choice.waits_is in
    let over_is : c.is_over.result ≡ is_over max_claims (step_for claim cs) (list_any (is_slot_claim slot c.args.connection) cs) (length cs) = cc in
    request_answered cs c.args.slots.now c.requires claim c.args.name.now choice.slot_is true (sym over_is ∙ c.if-is_over.true)

below : (n : ℕ) → nat_lt max_claims n ≡ false → n ≤ max_claims
below n e = ltb-false max_claims n e

pub returns : goal.returns
returns c =
    let cs = c.args.claims.now in
    let ss = c.args.slots.now in
    let name = c.args.name.now in
    let choice = c.in-Some.ensures in
    let slot = c.in-Some.choice.slot in
    let connection = c.args.connection in
    let flags = c.args.flags in
    let claim = claim_at slot connection flags in
    let step_is : c.in-Some.choice.step ≡ step_for claim cs = choice.step_is in
    let waits_is = choice.waits_is in
    let over_is : c.is_over.result ≡ is_over max_claims (step_for claim cs) (list_any (is_slot_claim slot connection) cs) (length cs) = cc in
    let not_over = sym over_is ∙ c.if-is_over.false in
    let fits = below (length (step_done (step_for claim cs) claim cs)) (step_fits max_claims claim cs c.requires.placed.fits ∙ not_over) in
    let old_is : c.connection_of.result ≡ slot_owner slot cs = c.connection_of.ensures ∙ ap (option_map (λ (x : SlotClaim). x.connection)) choice.owner_is in
    let reply_is : c.reply_of-answer.result ≡ reply_of (find (is_on_slot slot) cs) connection flags = c.reply_of-answer.ensures ∙ ap (λ o. reply_of o connection flags) choice.owner_is in
    let change_is = c.change_for-change.ensures ∙ ap (λ (a : NameReply). change_for name a c.connection_of.result connection) reply_is ∙ ap (λ o. change_for name (reply_of (find (is_on_slot slot) cs) connection flags) o connection) old_is in
    let answered = request_answered cs ss c.requires claim name choice.slot_is false not_over in
    record {
      slot_is = choice.slot_is;
      step_is = step_is;
      fits = subst (λ (s : Step). length (step_done s claim cs) ≤ max_claims) (sym step_is) fits;
      answer = rw (reply_is, change_is) answered;
    }
