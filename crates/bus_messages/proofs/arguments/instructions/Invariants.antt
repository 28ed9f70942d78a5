use Rattle.std.proofs.Common.{◌≡◌, map, take}
use Rattle.bus_messages.specs.Arguments.{instruction_of}
use Rattle.bus_messages.proofs.arguments.instructions.Given as goal

abbrev pub invariant-loop-group : goal.invariant-loop-group
invariant-loop-group l = l.program.items ≡ map (instruction_of l.order) (take l.group-index l.groups)
