use Rattle.std.proofs.Common.{◌≡◌, ◌∷◌, length}
use Rattle.program_table.specs.Connections.{numbers_of}
use Rattle.fan_out.specs.Marks.{AreNoted}
use Rattle.fan_out.specs.Marking.{AreMarkedSoFar}
use Rattle.fan_out.proofs.recipients.consider_all.Given as goal

abbrev pub invariant-entries : goal.invariant-entries
invariant-entries g l = record {
  view : l.programs.view.now ≡ l.fn.programs.view.now;
  owned : l.programs.owned.now ≡ l.fn.programs.owned.now;
  noted : AreNoted (numbers_of l.state.connections) l.marks.places l.marks.remainders;
  so_far : AreMarkedSoFar l.state l.piece.part l.piece.of l.fn.programs.view.now l.fn.programs.owned.now (l.first ∷ l.initial.others) (l.entry ∷ l.others) l.marks.places l.programs.cost.runs;
}

abbrev pub decreases-entries : goal.decreases-entries
decreases-entries g l = length l.others
