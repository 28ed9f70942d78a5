use Rattle.std.proofs.Common.{◌∙◌, List, ap, length, arith}
use Rattle.program_table.specs.declared.connection.Connection.{Connection}
use Rattle.program_table.specs.Connections.{numbers_of}
use Rattle.fan_out.specs.Marks.{marked_numbers}
use Rattle.fan_out.proofs.Places.{marked_few}
use Rattle.fan_out.proofs.Finding.{piece_listed}
use Rattle.fan_out.proofs.recipients.list_recipients.Goals as goal

pub returns-clause-exact : goal.returns-clause-exact
returns-clause-exact g c m valid =
    let marks = c.mark_recipients-cost.new.marks.places in
    piece_listed c.args.state.now c.args.sender m c.args.piece.part c.args.piece.of c.list.new.numbers.items marks c.mark_recipients-cost.ensures.state (c.mark_recipients-cost.ensures.exact m valid)
    (c.list.ensures ∙ ap (λ (cs : List (Connection _)). marked_numbers (numbers_of cs) marks) c.connections.ensures)

pub returns-clause-least : goal.returns-clause-least
returns-clause-least g c =
    omega (arith, ap length c.list.ensures, marked_few (numbers_of c.connections.result.now) c.mark_recipients-cost.new.marks.places, c.mark_recipients-cost.ensures.least)
