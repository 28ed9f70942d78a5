use Rattle.std.proofs.Common.{◌≡◌, drop}
use Rattle.std.specs.List.{list_any}
use Rattle.owners.specs.Kept.{is_by}
use Rattle.owners.proofs.claim.has_any.Given as goal

abbrev pub invariant-loop-claim : goal.invariant-loop-claim
invariant-loop-claim l = list_any (is_by l.connection) (drop l.claim-index l.claims) ≡ list_any (is_by l.connection) l.claims
