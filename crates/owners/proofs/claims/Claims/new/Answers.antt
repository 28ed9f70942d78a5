use Rattle.std.proofs.Common.{List, [], sym, ap, subst, ◌∙◌}
use Rattle.owners.specs.declared.claim.SlotClaim.{SlotClaim}
use Rattle.owners.specs.Kept.{registry, IsKept}
use Rattle.owners.proofs.Settled.{kept_is_registry}
use Rattle.owners.proofs.Questions.{opening_kept}
use Rattle.owners.proofs.claims.Claims.new.Goals as goal

pub invariant_of-result : goal.invariant_of-result
invariant_of-result c =
    let slots = c.in_ok-slots.slots in
    subst (λ (l : List SlotClaim). IsKept l slots) (sym c.in_ok-claims.ensures) (opening_kept slots c.in_ok-slots.ensures)

pub returns-clause-registry : goal.returns-clause-registry
returns-clause-registry c =
    let slots = c.in_ok-slots.slots in
    kept_is_registry c.in_ok-claims.claims slots (subst (λ (l : List SlotClaim). IsKept l slots) (sym c.in_ok-claims.ensures) (opening_kept slots c.in_ok-slots.ensures))

pub returns-clause-opening : goal.returns-clause-opening
returns-clause-opening c = ap (λ l. registry l c.in_ok-slots.slots) c.in_ok-claims.ensures ∙ ap (registry []) c.in_ok-slots.ensures
