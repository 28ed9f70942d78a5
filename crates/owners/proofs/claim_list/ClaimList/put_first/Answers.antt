use Rattle.std.proofs.Common.{◌≡◌, ◌∷◌, false, ap, ◌∙◌}
use Rattle.std.specs.List.{list_any}
use Rattle.owners.specs.SameClaim.{same_claim}
use Rattle.owners.proofs.Distinct.{put_first}
use Rattle.owners.proofs.claim_list.ClaimList.put_first.Goals as goal

pub returns : goal.returns
returns c =
    let claim = c.args.claim in
    let cs = c.self.inside.claims.keys in
    let absent : list_any (same_claim claim) cs ≡ false = ap (list_any (same_claim claim)) c.self.view_is ∙ c.requires.new in
    c.in-Ok.ensures.keys ∙ put_first claim cs absent ∙ ap (λ l. claim ∷ l) c.self.view_is
