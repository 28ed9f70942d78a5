use Rattle.std.proofs.Common.{◌≡◌, ◌+◌, drop, map}
use Rattle.filter_compile.specs.Names.{slot_in}
use Rattle.filter_compile.proofs.names.slot_in.Given as goal

-- those in front are others
abbrev pub invariant-loop-other : goal.invariant-loop-other
invariant-loop-other l =
    (l.slot + slot_in (map (λ other. other.now) (drop l.other-index l.names)) l.name ≡ slot_in (map (λ other. other.now) l.names) l.name)
    × (l.slot ≡ l.other-index)
