use Rattle.std.proofs.Common.{◌≡◌, drop}
use Rattle.std.specs.Prelude.{is_none}
use Rattle.std.specs.List.{position_from}
use Rattle.owners.specs.Registry.{first_free}
use Rattle.owners.proofs.holding.first_free.Given as goal

abbrev pub invariant-loop-slot : goal.invariant-loop-slot
invariant-loop-slot l = record {
  place : l.place ≡ l.slot-index;
  rest : position_from is_none l.place (drop l.slot-index l.slots) ≡ first_free l.slots;
}
