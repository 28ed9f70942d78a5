use Rattle.std.proofs.Common.{arith, ap, sym, subst, ◌∙◌}
use Rattle.std.specs.Prelude.{List}
use Rattle.std.specs.List.{list_any, IsDistinct}
use Rattle.owners.specs.declared.claim.SlotClaim.{SlotClaim}
use Rattle.owners.specs.SameClaim.{same_claim}
use Rattle.owners.proofs.Distinct.{not_flagged}
use Rattle.owners.proofs.claim_list.put_flagged.Goals as goal

pub loop-claim-init : goal.loop-claim-init
unfolding IsDistinct
loop-claim-init c = record {
  claims = c.requires.empty;
  room = omega (arith, c.requires.room);
  apart = subst (λ (l : List SlotClaim). IsDistinct same_claim l) (sym c.requires.empty) tt;
}

pub put_last-requires-clause-new : goal.put_last-requires-clause-new
put_last-requires-clause-new c =
    let cs = c.args.claims.now in
    let i = c.loop-claim.claim-index in
    let d : SlotClaim = record { connection = 0; flags = 0; slot = 0 } in
    let flagged = c.args.flagged in
    ap (λ (x : SlotClaim). list_any (same_claim x) c.loop-claim.staying.keys) c.flagged_as.ensures
    ∙ ap (list_any _) c.loop-claim.invariant.claims ∙ not_flagged flagged.slot flagged.connection flagged.flags cs i d (omega arith) c.requires.apart
