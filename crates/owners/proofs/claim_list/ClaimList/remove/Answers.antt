use Rattle.std.proofs.Common.{◌≡◌, ◌≤◌, ◌+◌, sym, ap, subst, ◌∙◌, arith, length}
use Rattle.std.specs.Prelude.{filter, not}
use Rattle.std.specs.List.{IsDistinct}
use Rattle.indexmap.specs.IndexSet.{spare}
use Rattle.owners.specs.declared.claim.SlotClaim.{SlotClaim}
use Rattle.owners.specs.Kept.{is_leaving}
use Rattle.owners.specs.SameClaim.{same_claim}
use Rattle.owners.proofs.Lists.{length-filter-le}
use Rattle.owners.proofs.claim_list.ClaimList.remove.Goals as goal

pub invariant_of-self : goal.invariant_of-self
invariant_of-self c =
    let cs = c.self.inside.claims.keys in
    let stays = λ (x : SlotClaim). not (is_leaving c.args.slot c.args.connection x) in
    let left_is : c.put_staying.new.staying.keys ≡ filter stays cs = c.put_staying.ensures.claims ∙ ap (filter stays) c.as_slice.ensures.keys in
    let exchanged = c.exchange.ensures.claims in
    let fewer = length-filter-le stays cs in
    record {
      fits = omega (arith, ap length (ap (λ s. s.keys) exchanged ∙ left_is), fewer, c.self.invariant.fits);
      room = subst (λ s. 4096 ≤ length s.keys + spare s) (sym exchanged) c.put_staying.ensures.room;
      apart = subst (λ s. IsDistinct same_claim s.keys) (sym exchanged) c.put_staying.ensures.apart;
      empty = c.exchange.ensures.empty;
      cleared_room = omega (arith, c.self.invariant.room, c.exchange.ensures.room);
    }
