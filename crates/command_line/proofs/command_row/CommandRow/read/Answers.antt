use Rattle.std.proofs.Common.{◌∙◌}
use Rattle.command_line.proofs.Rows.{row_of_code, read_of_row}
use Rattle.command_line.proofs.command_row.CommandRow.read.Goals as goal

pub returns : goal.returns
returns c = record {
  found = row_of_code c.from_left.result _ c.from_left.ensures;
  only = λ asked row. c.from_left.ensures ∙ read_of_row asked _ row;
}
