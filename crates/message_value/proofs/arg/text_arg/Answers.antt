use Rattle.std.proofs.Common.{arith}
use Rattle.message_value.proofs.ShownSteps.{start_within}
use Rattle.message_value.proofs.arg.text_arg.Goals as goal

pub overflow_add-result : goal.overflow_add-result
overflow_add-result c =
    let within = start_within c.args.order c.args.text_type c.args.cursor.now c.requires.0 c.requires.1 in
    omega arith
