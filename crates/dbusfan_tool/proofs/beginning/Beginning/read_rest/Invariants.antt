use Rattle.std.proofs.Common.{◌≡◌, ℕ, List, ◌++◌}
use Rattle.command_line.specs.Files.{Begun}
use Rattle.dbusfan_tool.specs.CaptureSteps.{so_far}
use Rattle.dbusfan_tool.proofs.beginning.Beginning.read_rest.Given as goal

abbrev pub invariant-loop : goal.invariant-loop
invariant-loop g l =
    (before : g.row.F.Denot) (name : List ℕ) → g.F.Files.gives before name (so_far l.fn.self.is_open l.fn.self.bytes.items) l.fn.files
    → (more : List ℕ) × (l.bytes.items ≡ l.fn.self.bytes.items ++ more) × g.F.Files.gives before name (Begun l.bytes.items) l.files
