use Rattle.std.proofs.Common.{◌≡◌, ◌++◌, drop, false}
use Rattle.filter.specs.Lexis.{without_escapes}
use Rattle.filter.proofs.quoted.without_escapes.Given as goal

abbrev pub invariant-loop-byte : goal.invariant-loop-byte
invariant-loop-byte l = l.text.items ++ without_escapes l.after_backslash (drop l.byte-index l.bytes) ≡ without_escapes false l.bytes
