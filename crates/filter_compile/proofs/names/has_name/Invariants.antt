use Rattle.std.proofs.Common.{◌≡◌, drop, map}
use Rattle.filter_compile.specs.Names.{has_name}
use Rattle.filter_compile.proofs.names.has_name.Given as goal

-- it isn't among those in front
abbrev pub invariant-loop-other : goal.invariant-loop-other
invariant-loop-other l =
    has_name (map (λ other. other.now) (drop l.other-index l.names)) l.name ≡ has_name (map (λ other. other.now) l.names) l.name
