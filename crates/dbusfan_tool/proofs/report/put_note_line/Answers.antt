use Rattle.std.proofs.Common.{append_assoc}
use Rattle.dbusfan_tool.proofs.report.put_note_line.Goals as goal

pub returns-in-NoMessage : goal.returns-in-NoMessage
returns-in-NoMessage c = rw c.in-NoMessage.is (simp append_assoc c.write-in-NoMessage.ensures.bytes)
