use Rattle.std.proofs.Common.{◌≡◌, ◌≤◌, length, drop, map}
use Rattle.std.specs.List.{filter}
use Rattle.owners.specs.Registry.{least}
use Rattle.owners.specs.Kept.{is_named_after, claim_name}
use Rattle.owners.proofs.least.least_after.Given as goal

abbrev pub invariant-loop-left : goal.invariant-loop-left
invariant-loop-left l = record {
  inside : l.left ≤ length l.claims;
  least : l.least ≡ least (map (claim_name l.slots) (filter (is_named_after l.other l.slots) (drop l.left l.claims)));
}

abbrev pub decreases-loop-left : goal.decreases-loop-left
decreases-loop-left l = l.left
