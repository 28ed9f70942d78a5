use Rattle.std.proofs.Common.{◌≡◌}
use Rattle.filter_compile.specs.Pieces.{same_units, same_bytes}
use Rattle.filter_compile.proofs.code.Code.same_bytes.Given as goal

-- the units from this one on are compared
abbrev pub invariant-loop-unit : goal.invariant-loop-unit
invariant-loop-unit l =
    same_units l.width l.at l.value l.unit l.exits.fails l.self ≡ same_bytes l.at l.value l.exits l.fn.self
