use Rattle.std.proofs.Common.{◌≡◌, drop}
use Rattle.std.specs.List.{list_any}
use Rattle.watch_command.specs.Options.{is_said}
use Rattle.watch_command.proofs.options.Options.has_any.Given as goal

abbrev pub invariant-loop-key : goal.invariant-loop-key
invariant-loop-key l = list_any (is_said l.self) (drop l.key-index l.keys) ≡ list_any (is_said l.self) l.keys
