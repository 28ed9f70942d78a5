use Rattle.std.proofs.Common.{◌≡◌, ◌≤◌, ◌++◌, drop}
use Rattle.arrayvec.specs.ArrayVec.{array_vec_len}
use Rattle.program_table.specs.Connections.{numbers_of}
use Rattle.fan_out.specs.Marks.{marked_numbers}
use Rattle.fan_out.proofs.marks.Marks.list_places.Given as goal

abbrev pub invariant-loop-place : goal.invariant-loop-place
invariant-loop-place g l = record {
  few : array_vec_len l.numbers ≤ l.place;
  listed : l.numbers.items ++ marked_numbers (drop l.place (numbers_of l.connections)) (drop l.place l.self.places) ≡ marked_numbers (numbers_of l.connections) l.self.places;
}
