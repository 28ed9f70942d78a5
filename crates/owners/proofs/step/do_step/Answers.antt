use Rattle.std.proofs.Common.{◌∷◌, sym, ap, ◌∙◌}
use Rattle.std.specs.List.{list_any}
use Rattle.owners.specs.declared.step.Step.{Step}
use Rattle.owners.specs.Kept.{is_slot_claim, slot_without, step_done}
use Rattle.owners.proofs.Lists.{any-without}
use Rattle.owners.proofs.step.do_step.Goals as goal

pub put_first-requires-clause-new : goal.put_first-requires-clause-new
put_first-requires-clause-new c =
    let claim = c.args.claim in
    let own = is_slot_claim claim.slot claim.connection in
    ap (list_any own) c.remove-in-Replace.ensures ∙ any-without own c.remove_leaving.new.claims

pub returns-in-Replace : goal.returns-in-Replace
returns-in-Replace c =
    let claim = c.args.claim in
    c.put_first.ensures
    ∙ ap (λ l. claim ∷ l) (c.remove-in-Replace.ensures ∙ ap (slot_without claim.slot claim.connection) c.remove_leaving.ensures)
    ∙ ap (λ (s : Step). step_done s claim c.args.claims.now) (sym c.in-Replace.is)
