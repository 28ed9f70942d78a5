use Rattle.std.proofs.Common.{◌≡◌, ◌++◌, drop}
use Rattle.std.specs.Prelude.{string_bytes}
use Rattle.watch_command.specs.ShownText.{shown_text}
use Rattle.watch_command.proofs.shown_text.shown_text.Given as goal

abbrev pub invariant-loop-byte : goal.invariant-loop-byte
invariant-loop-byte l = string_bytes l.shown ++ shown_text (drop l.byte-index l.byte-items) ≡ shown_text l.text
