use Rattle.std.proofs.Common.{[]}
use Rattle.command_line.specs.Output.{none}
use Rattle.dbusfan_tool.specs.Usage.{SaysUsage}
use Rattle.dbusfan_tool.proofs.Saying.{says_outcome, says_alone, tells_after}
use Rattle.dbusfan_tool.proofs.entry.tool.Goals as goal

pub returns-clause-row : goal.returns-clause-row
returns-clause-row g c asked row =
    let said = c.answer.ensures.row asked row in
    says_outcome _ said.0 c.answer.result _ _ _ _ said.2 (tells_after _ _ _ _ _ _ said.0 _ _ _ _ said.1 c.tell.ensures)

pub returns-clause-no_row : goal.returns-clause-no_row
returns-clause-no_row g c no_row =
    says_outcome (SaysUsage c.args.words.now) [] c.answer.result _ _ _ _ (says_alone (SaysUsage c.args.words.now) c.answer.result (c.answer.ensures.no_row no_row)) (tells_after _ _ _ _ _ _ [] _ _ _ _ (rw (c.answer.ensures.unwritten no_row) none) c.tell.ensures)
