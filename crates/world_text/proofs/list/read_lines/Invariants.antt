use Rattle.std.proofs.Common.{map, take}
use Rattle.world_text.specs.Events.{tree_of}
use Rattle.world_text.specs.Lists.{AreEvents}
use Rattle.world_text.specs.Reads.{texts}
use Rattle.world_text.proofs.list.read_lines.Given as goal

abbrev pub invariant-loop-index : goal.invariant-loop-index
invariant-loop-index l = AreEvents (take l.index (texts l.lines)) (map tree_of l.events.items)
