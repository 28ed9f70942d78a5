use Rattle.std.proofs.Common.{◌≡◌, ◌++◌, take, string_bytes}
use Rattle.dbusfan_tool.specs.Nearest.{near_lines}
use Rattle.dbusfan_tool.proofs.nearest.put_near_lines.Given as goal

-- the lines of those in front were added
abbrev pub invariant-loop-miss : goal.invariant-loop-miss
invariant-loop-miss l = string_bytes l.text ≡ string_bytes l.fn.text ++ near_lines (take l.miss-index l.nearest)
