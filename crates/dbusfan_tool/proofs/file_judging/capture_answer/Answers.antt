use Rattle.dbusfan_tool.proofs.FileSaid.{said_of_end, said_of_break}
use Rattle.dbusfan_tool.proofs.Judgements.{words_are}
use Rattle.dbusfan_tool.proofs.file_judging.capture_answer.Goals as goal

pub returns-in-Ok : goal.returns-in-Ok
returns-in-Ok g c judge before name serves gives taken sure =
    let end = c.in-Ok.ensures judge before name serves gives in
    (end.0, end.1, said_of_end _ judge c.args.each c.args.beginning end.0 _ c.in-Ok.end c.answer.result (words_are judge _ serves) taken sure end.2 (c.answer.ensures _ _ end.0 end.2.found end.2.passed end.2.tally end.2.none_left))

pub returns-in-Err : goal.returns-in-Err
returns-in-Err g c judge before name serves gives taken sure =
    let broke = c.in-Err.ensures judge before name serves gives in
    (broke.0, broke.1, said_of_break _ judge c.args.each broke.0 _ c.in-Err.fault (words_are judge _ serves) broke.2)
