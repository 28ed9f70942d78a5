use Rattle.std.proofs.Common.{Bool, Some, sym, ap, ◌∙◌}
use Rattle.program_table.specs.declared.refusal.Refusal.TheVariants.{QueueFull}
use Rattle.program_table.specs.Refusals.{refuse_if}
use Rattle.program_table.specs.Capacities.{slot_within}
use Rattle.program_table.proofs.Within.{handed_on, no_slot_within, slot_is_within}
use Rattle.program_table.proofs.registration_table.RegistrationTable.claim_within.Goals as goal

pub returns-in_err-slot_within : goal.returns-in_err-slot_within
returns-in_err-slot_within c =
    let said = c.slot_within.ensures ∙ ap (λ t. slot_within c.args.most.now (Some t) c.args.self.now.slots) c.as_str.ensures in
    handed_on c.from_residual.result _ c.in_err-slot_within.field-0.0 c.from_residual.ensures.1
    (no_slot_within c.args.most.now c.args.name.now c.args.connection c.args.flags c.args.self.now c.in_err-slot_within.field-0.0 (sym said ∙ c.in_err-slot_within.was))

pub returns-then-is_over : goal.returns-then-is_over
returns-then-is_over c =
    ap (λ (b : Bool). refuse_if b QueueFull) (sym c.if-is_over.true)
    ∙ sym (slot_is_within c.args.most.now c.args.name.now c.args.connection c.args.flags c.args.self.now c.is_over.result
    (sym (c.slot_within.ensures ∙ ap (λ t. slot_within c.args.most.now (Some t) c.args.self.now.slots) c.as_str.ensures) ∙ c.in_ok-slot_within.was) c.is_over.ensures)

pub returns-else-is_over : goal.returns-else-is_over
returns-else-is_over c =
    ap (λ (b : Bool). refuse_if b QueueFull) (sym c.if-is_over.false)
    ∙ sym (slot_is_within c.args.most.now c.args.name.now c.args.connection c.args.flags c.args.self.now c.is_over.result
    (sym (c.slot_within.ensures ∙ ap (λ t. slot_within c.args.most.now (Some t) c.args.self.now.slots) c.as_str.ensures) ∙ c.in_ok-slot_within.was) c.is_over.ensures)
