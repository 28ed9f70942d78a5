use Rattle.std.proofs.Common.{◌≡◌, ◌≤◌, ◌*◌, ◌++◌, drop}
use Rattle.arrayvec.specs.ArrayVec.{array_vec_len}
use Rattle.program_table.specs.Connections.{numbers_of}
use Rattle.fan_out.specs.Marks.{marked_numbers}
use Rattle.fan_out.proofs.marks.Marks.list_rows.Given as goal

abbrev pub invariant-loop-row : goal.invariant-loop-row
invariant-loop-row g l = record {
  few : array_vec_len l.numbers ≤ 16 * l.row;
  listed : l.numbers.items ++ marked_numbers (drop (16 * l.row) (numbers_of l.connections)) (drop (16 * l.row) l.self.places) ≡ marked_numbers (numbers_of l.connections) l.self.places;
}
