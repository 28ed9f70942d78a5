use Rattle.std.proofs.Common.{arith, ap, sym, subst, ◌∙◌, length, take, get_or}
use Rattle.std.proofs.lemmas.List.{length-take-le}
use Rattle.std.specs.Prelude.{not, List}
use Rattle.std.specs.List.{list_any, IsDistinct}
use Rattle.owners.specs.declared.claim.SlotClaim.{SlotClaim}
use Rattle.owners.specs.Kept.{is_leaving}
use Rattle.owners.specs.SameClaim.{same_claim}
use Rattle.owners.proofs.Lists.{length-filter-le}
use Rattle.owners.proofs.Distinct.{not_staying}
use Rattle.owners.proofs.claim_list.put_staying.Goals as goal

pub loop-claim-init : goal.loop-claim-init
unfolding IsDistinct
loop-claim-init c = record {
  claims = c.requires.empty;
  room = omega (arith, c.requires.room);
  apart = subst (λ (l : List SlotClaim). IsDistinct same_claim l) (sym c.requires.empty) tt;
}

pub put_last-requires-clause-fits : goal.put_last-requires-clause-fits
put_last-requires-clause-fits c =
    let cs = c.args.claims.now in
    let i = c.loop-claim.claim-index in
    let stays = λ (x : SlotClaim). not (is_leaving c.args.slot c.args.connection x) in
    omega (arith, ap length c.loop-claim.invariant.claims, length-filter-le stays (take i cs), length-take-le i cs (omega arith), c.requires.fits)

pub put_last-requires-clause-new : goal.put_last-requires-clause-new
put_last-requires-clause-new c =
    let cs = c.args.claims.now in
    let i = c.loop-claim.claim-index in
    let d : SlotClaim = record { connection = 0; flags = 0; slot = 0 } in
    let stays = λ (x : SlotClaim). not (is_leaving c.args.slot c.args.connection x) in
    ap (list_any (same_claim (get_or cs i d))) c.loop-claim.invariant.claims ∙ not_staying stays cs i d (omega arith) c.requires.apart
