use Rattle.std.proofs.Common.{◌≡◌, map, drop}
use Rattle.std.specs.List.{list_any}
use Rattle.watch_command.specs.Owners.{is_ownership}
use Rattle.watch_command.specs.KnownOwners.{pair_of}
use Rattle.watch_command.proofs.owners.is_among.Given as goal

abbrev pub invariant-loop-ownership : goal.invariant-loop-ownership
invariant-loop-ownership l = list_any (is_ownership l.owner l.name) (map pair_of (drop l.ownership-index l.ownerships)) ≡ list_any (is_ownership l.owner l.name) (map pair_of l.ownerships)
