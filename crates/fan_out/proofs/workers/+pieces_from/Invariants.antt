use Rattle.std.proofs.Common.{◌+◌, ◌-◌}
use Rattle.fan_out.proofs.workers.+pieces_from.Given as goal

abbrev pub decreases-pieces_from : goal.decreases-pieces_from
decreases-pieces_from g l = l.of + 1 - l.part
