use Rattle.std.proofs.Common.{ℕ, List, []}
use Rattle.command_line.specs.Files.{Begun}
use Rattle.dbusfan_tool.proofs.beginning.Beginning.read.Given as goal

abbrev pub invariant-loop : goal.invariant-loop
invariant-loop g l =
    (before : g.row.F.Denot) (name : List ℕ) → g.F.Files.gives before name (Begun []) l.fn.files → g.F.Files.gives before name (Begun l.bytes.items) l.files
