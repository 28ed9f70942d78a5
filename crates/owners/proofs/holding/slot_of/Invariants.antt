use Rattle.std.proofs.Common.{◌≡◌, drop}
use Rattle.std.specs.List.{position_from}
use Rattle.owners.specs.Registry.{is_held_by, slot_of}
use Rattle.owners.proofs.holding.slot_of.Given as goal

abbrev pub invariant-loop-slot : goal.invariant-loop-slot
invariant-loop-slot l = record {
  place : l.place ≡ l.slot-index;
  rest : position_from (is_held_by l.name) l.place (drop l.slot-index l.slots) ≡ slot_of l.name l.slots;
}
