use Rattle.std.proofs.Common.{[], sym, ◌∙◌}
use Rattle.command_line.specs.Output.{none}
use Rattle.dbusfan_tool.proofs.FileSaid.{neither, not_read, said_of_message, fault_of_message}
use Rattle.dbusfan_tool.proofs.Judgements.{words_are}
use Rattle.dbusfan_tool.proofs.file_judging.answer.Goals as goal

pub returns-in-Err : goal.returns-in-Err
returns-in-Err g c judge serves = ([], none, not_read _ judge c.args.each c.in-Err.fault c.in-Err.ensures.fault)

pub returns-then-is_taken : goal.returns-then-is_taken
returns-then-is_taken g c judge serves =
    let begun = c.in-Ok.ensures.found in
    let taken = rw c.deref.ensures.value at (sym c.is_taken.ensures ∙ c.if-is_taken.true) in
    c.capture_answer.ensures judge _ _ serves begun.0 taken begun.1

pub returns-in-Ok-outcome : goal.returns-in-Ok-outcome
returns-in-Ok-outcome g c judge serves =
    let begun = c.in-Ok.ensures.found in
    let not_taken = rw c.deref.ensures.value at (sym c.is_taken.ensures ∙ c.if-is_taken.false) in
    let one = neither _ _ not_taken in
    let finds = c.in-Ok-outcome.ensures judge _ _ serves begun.0 one.1 (begun.1 one.0) in
    ([], none, said_of_message _ judge c.args.each _ _ c.answer_of_outcome.result one.0 (words_are judge _ serves) finds c.answer_of_outcome.ensures)

pub returns-in-Err-outcome : goal.returns-in-Err-outcome
returns-in-Err-outcome g c judge serves =
    let begun = c.in-Ok.ensures.found in
    let not_taken = rw c.deref.ensures.value at (sym c.is_taken.ensures ∙ c.if-is_taken.false) in
    let one = neither _ _ not_taken in
    ([], none, fault_of_message _ judge c.args.each _ one.0 (c.in-Err-outcome.ensures judge _ _ serves begun.0 one.1 (begun.1 one.0)))
