use Rattle.std.proofs.Common.{length}
use Rattle.match_rule.proofs.KeptParts.{IsTurn}
use Rattle.match_rule.proofs.part.parts_at.Given as goal

-- the parts so far, before those of the rest, are those of the whole
abbrev pub invariant-loop-rest : goal.invariant-loop-rest
invariant-loop-rest l = IsTurn l.parts.conditions.items l.parts.eavesdrop l.rest l.fn.text

abbrev pub decreases-loop-rest : goal.decreases-loop-rest
decreases-loop-rest l = length l.rest
