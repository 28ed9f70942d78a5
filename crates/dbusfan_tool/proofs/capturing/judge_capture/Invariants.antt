use Rattle.std.proofs.Common.{ℕ, List}
use Rattle.command_line.specs.Output.{PutsParts}
use Rattle.dbusfan_tool.specs.Judges.{Judge}
use Rattle.dbusfan_tool.specs.Serving.{Serves}
use Rattle.dbusfan_tool.specs.CaptureSteps.{so_far}
use Rattle.dbusfan_tool.proofs.FileCaptured.{SoFar}
use Rattle.dbusfan_tool.proofs.capturing.judge_capture.Given as goal

abbrev pub invariant-loop : goal.invariant-loop
invariant-loop g l =
    (judge : Judge) (before : g.row.F.Denot) (name : List ℕ) → Serves judge l.program_judge → g.F.Files.gives before name (so_far l.fn.beginning.is_open l.fn.beginning.bytes.items) l.fn.files
    → SoFar judge l.program_judge.words l.each l.fn.beginning (λ content. g.F.Files.gives before name content l.files) (λ written. PutsParts g.O.Writer.takes g.O.Writer.flushes g.O.Writer.may_fail l.fn.out l.out written) l.packets l.tally l.bytes.items l.is_open
