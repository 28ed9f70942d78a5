use Rattle.std.proofs.Common.{◌≡◌, drop}
use Rattle.traffic.specs.Times.{at_rank}
use Rattle.traffic.proofs.times.at_rank.Given as goal

abbrev pub invariant-loop-class : goal.invariant-loop-class
invariant-loop-class l = at_rank l.left (drop l.class-index l.classes) ≡ at_rank l.rank l.classes
