use Rattle.std.proofs.Common.{◌≡◌, ◌+◌, drop}
use Rattle.std.specs.Prelude.{None}
use Rattle.filter.specs.Lexis.{bad_escape}
use Rattle.filter.proofs.quoted.bad_escape.Given as goal

abbrev pub invariant-loop-i : goal.invariant-loop-i
invariant-loop-i l = bad_escape l.pending (l.place + l.i) (drop l.i l.bytes) ≡ bad_escape None l.place l.bytes
