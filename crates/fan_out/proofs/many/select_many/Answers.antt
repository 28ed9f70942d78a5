use Rattle.std.proofs.Common.{◌∙◌, ◌<◌, List, ap, arith}
use Rattle.program_table.specs.declared.connection.Connection.{Connection}
use Rattle.program_table.specs.Connections.{numbers_of}
use Rattle.fan_out.specs.Marks.{marked_numbers}
use Rattle.fan_out.proofs.Finding.{recipients_listed}
use Rattle.fan_out.proofs.Joining.{pieces_state, pieces_whole}
use Rattle.fan_out.proofs.many.select_many.Goals as goal

pub returns-clause-recipients : goal.returns-clause-recipients
returns-clause-recipients g c m valid =
    let marks = c.in_ok-marks.marks.places in
    let some : 0 < c.args.workers = omega arith in
    recipients_listed c.args.state.now c.args.sender m c.list.new.numbers.items marks
    (pieces_state c.args.state.now c.args.sender c.args.view.now c.args.workers marks some c.in_ok-marks.ensures.marks)
    (pieces_whole c.args.state.now c.args.sender c.args.view.now c.args.workers marks m some valid c.in_ok-marks.ensures.marks)
    (c.list.ensures ∙ ap (λ (cs : List (Connection _)). marked_numbers (numbers_of cs) marks) c.connections.ensures)
