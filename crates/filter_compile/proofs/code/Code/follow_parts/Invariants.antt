use Rattle.std.proofs.Common.{◌≡◌, ◌<◌, ◌-◌, length, drop, get_or}
use Rattle.rule_compile.specs.Folders.{parts_of}
use Rattle.filter_compile.specs.Pieces.{follow_parts}
use Rattle.filter_compile.proofs.code.Code.follow_parts.Given as goal

-- the text goes along the parts from the start on
abbrev pub invariant-loop-start : goal.invariant-loop-start
invariant-loop-start l =
    (l.self ≡ follow_parts l.at l.start (parts_of (drop l.start l.value)) l.exits l.fn.self) × (l.start < length l.value) × (0 < l.start → get_or l.value (l.start - 1) 0 ≡ 47)

abbrev pub decreases-loop-start : goal.decreases-loop-start
decreases-loop-start l = l.start
