use Rattle.std.proofs.Common.{◌≡◌, ◌≤◌, ◌+◌, ◌∷◌, List, Contains, length}
use Rattle.entry_table.specs.declared.entry.Entry.{Entry}
use Rattle.program_table.specs.Connections.{numbers_of}
use Rattle.fan_out.specs.Marks.{AreNoted}
use Rattle.fan_out.specs.Marking.{AreMarkedSoFar}
use Rattle.fan_out.proofs.recipients.consider_with_edition_one.Given as goal

abbrev pub invariant-loop-entry : goal.invariant-loop-entry
invariant-loop-entry g l = record {
  view : l.programs.view.now ≡ l.fn.programs.view.now;
  owned : l.programs.owned.now ≡ l.fn.programs.owned.now;
  noted : AreNoted (numbers_of l.state.connections) l.marks.places l.marks.remainders;
  few : l.programs.cost.runs + length l.others ≤ l.fn.programs.cost.runs + (length l.initial.others + 1);
  rest : (e : Entry) → Contains l.others e → Contains (l.first ∷ l.initial.others) e;
  marked : (all : List Entry)
      → AreMarkedSoFar l.state l.piece.part l.piece.of l.fn.programs.view.now l.fn.programs.owned.now all (l.first ∷ l.initial.others) l.fn.marks.places l.fn.programs.cost.runs
      → AreMarkedSoFar l.state l.piece.part l.piece.of l.fn.programs.view.now l.fn.programs.owned.now all l.others l.marks.places l.programs.cost.runs;
}

abbrev pub decreases-loop-entry : goal.decreases-loop-entry
decreases-loop-entry g l = length l.others
