use Rattle.std.proofs.Common.{◌≡◌, take}
use Rattle.peers.proofs.queries.unique_names.Given as goal

abbrev pub invariant-loop-number : goal.invariant-loop-number
invariant-loop-number l = l.unique.items ≡ take l.number-index l.numbers
