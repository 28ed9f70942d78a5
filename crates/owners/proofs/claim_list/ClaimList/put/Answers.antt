use Rattle.std.proofs.Common.{◌≡◌, ◌≤◌, ◌+◌, [], ◌∷◌, false, sym, ap, subst, ◌∙◌, arith, length, length-append}
use Rattle.std.specs.Prelude.{List}
use Rattle.std.specs.List.{list_any}
use Rattle.owners.specs.declared.claim.SlotClaim.{SlotClaim}
use Rattle.owners.specs.Kept.{claim_put}
use Rattle.owners.specs.SameClaim.{same_claim}
use Rattle.owners.proofs.Distinct.{put_new}
use Rattle.owners.proofs.claim_list.ClaimList.put.Goals as goal

pub put_last-requires-clause-fits : goal.put_last-requires-clause-fits
put_last-requires-clause-fits c =
    let claim = c.args.claim in
    let cs = c.self.inside.claims.keys in
    let absent : list_any (same_claim claim) cs ≡ false = sym c.contains.ensures ∙ c.if-contains.false in
    let fits = subst (λ (l : List SlotClaim). length (claim_put claim l) ≤ 4096) (sym c.self.view_is) c.requires in
    let more : length (claim_put claim cs) ≡ length cs + 1 = ap length (put_new claim cs absent) ∙ length-append cs (claim ∷ []) in
    omega (arith, fits, more)

pub invariant_of-self-else-contains : goal.invariant_of-self-else-contains
invariant_of-self-else-contains c =
    let claim = c.args.claim in
    let cs = c.self.inside.claims.keys in
    let absent : list_any (same_claim claim) cs ≡ false = sym c.contains.ensures ∙ c.if-contains.false in
    let fits = subst (λ (l : List SlotClaim). length (claim_put claim l) ≤ 4096) (sym c.self.view_is) c.requires in
    let put_is = put_new claim cs absent ∙ sym c.put_last.ensures.claims in
    record {
      fits = subst (λ (l : List SlotClaim). length l ≤ 4096) put_is fits;
      room = c.put_last.ensures.room;
      apart = c.put_last.ensures.apart;
      empty = c.self.invariant.empty;
      cleared_room = c.self.invariant.cleared_room;
    }
