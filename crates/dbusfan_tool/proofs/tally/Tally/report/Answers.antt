use Rattle.dbusfan_tool.proofs.Tallied.{said_at_end}
use Rattle.dbusfan_tool.proofs.tally.Tally.report.Goals as goal

pub returns : goal.returns
returns c words each written found passed tally empty =
    let listed = rw c.deref.ensures.value at c.in_ok-put_near_lines.ensures in
    said_at_end words each written found passed c.args.self c.args.fault _ _ _ _ tally empty listed c.in_ok-put_last_line.ensures c.in_ok-put_notes.ensures c.capture_status-status.ensures
