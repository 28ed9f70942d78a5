use Rattle.std.proofs.Common.{◌≡◌, drop, false}
use Rattle.filter.specs.Lexis.{quoted_len}
use Rattle.filter.proofs.quoted.quoted_len.Given as goal

abbrev pub invariant-loop-len : goal.invariant-loop-len
invariant-loop-len l = quoted_len l.quote l.after_backslash l.len (drop l.len l.bytes) ≡ quoted_len l.quote false 0 l.bytes
