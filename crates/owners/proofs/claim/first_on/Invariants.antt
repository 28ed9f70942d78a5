use Rattle.std.proofs.Common.{◌≡◌, drop}
use Rattle.std.specs.List.{find}
use Rattle.owners.specs.Kept.{is_on_slot}
use Rattle.owners.proofs.claim.first_on.Given as goal

abbrev pub invariant-loop-claim : goal.invariant-loop-claim
invariant-loop-claim l = find (is_on_slot l.slot) (drop l.claim-index l.claims) ≡ find (is_on_slot l.slot) l.claims
