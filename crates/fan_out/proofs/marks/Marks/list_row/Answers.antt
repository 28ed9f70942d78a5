use Rattle.std.proofs.Common.{◌++◌, ℕ, List, sym, ap}
use Rattle.program_table.specs.Connections.{numbers_of}
use Rattle.fan_out.proofs.Rows.{row_passed}
use Rattle.fan_out.proofs.marks.Marks.list_row.Goals as goal

pub returns-then-not-has_row-clause-listed : goal.returns-then-not-has_row-clause-listed
returns-then-not-has_row-clause-listed g c =
    let self = c.args.self.now in
    ap (λ (xs : List ℕ). c.args.numbers.now.items ++ xs) (sym (row_passed self.places self.rows c.args.row (numbers_of c.args.connections.now) self.size self.in_rows c.requires.row c.if-not-has_row.ensures))
