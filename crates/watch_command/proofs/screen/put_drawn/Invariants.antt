use Rattle.std.proofs.Common.{◌≡◌, ◌++◌, drop}
use Rattle.watch_command.specs.Screens.{drawn}
use Rattle.watch_command.proofs.screen.put_drawn.Given as goal

abbrev pub invariant-loop-byte : goal.invariant-loop-byte
invariant-loop-byte l = l.shown.items ++ drawn l.columns l.room (drop l.byte-index l.text) ≡ l.initial.shown.items ++ drawn l.columns l.columns l.text
