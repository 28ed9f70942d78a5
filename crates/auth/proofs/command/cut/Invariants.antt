use Rattle.std.proofs.Common.{◌≡◌, drop, take, ◌++◌}
use Rattle.auth.specs.Commands.{words_of}
use Rattle.auth.proofs.command.cut.Given as goal

abbrev pub invariant-loop-i : goal.invariant-loop-i
invariant-loop-i l = words_of l.line ≡ record { word = take l.i l.line ++ (words_of (drop l.i l.line)).word; more = (words_of (drop l.i l.line)).more }
