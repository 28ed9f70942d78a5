use Rattle.std.proofs.Common.{◌≡◌, drop, ◌++◌}
use Rattle.std.specs.Prelude.{Ok}
use Rattle.match_rule.specs.declared.quoting.Quoting.TheVariants.{Outside}
use Rattle.match_rule.specs.Reading.{value_from, ◌>>=◌}
use Rattle.match_rule.proofs.part.value_at.Given as goal

-- the bytes so far, before those of the rest, are those of the whole
abbrev pub invariant-loop-i : goal.invariant-loop-i
invariant-loop-i l = (value_from l.quoting (drop l.i l.bytes) >>= λ found. Ok (l.value.items ++ found.0, found.1)) ≡ value_from Outside l.bytes
