use Rattle.std.proofs.Common.{ℕ, ◌-◌, ◌≤◌, Bool, List, length, drop}
use Rattle.dbusfan_tool.specs.declared.finding.Finding.{Finding}
use Rattle.dbusfan_tool.specs.declared.wording.Wording.{Wording}
use Rattle.dbusfan_tool.specs.Judges.{Judge}
use Rattle.dbusfan_tool.specs.Serving.{Serves}
use Rattle.dbusfan_tool.specs.Tallies.{IsTally}
use Rattle.dbusfan_tool.specs.CaptureSteps.{IsAt}
use Rattle.dbusfan_tool.proofs.capturing.take_packets.Given as goal

abbrev pub invariant-loop-packet : goal.invariant-loop-packet
invariant-loop-packet l =
    ((judge : Judge) (words : Wording) (each : Bool) (came written : List ℕ) (found : List Finding) (passed : ℕ) → Serves judge l.program_judge → IsTally words each l.fn.tally written found passed → IsAt judge came found passed l.fn.packets l.bytes
    → (more_found : List Finding) × (more_passed : ℕ) × IsTally words each l.tally written more_found more_passed × IsAt judge came more_found more_passed l.packets (drop l.taken l.bytes))
    × (l.taken ≤ length l.bytes)

abbrev pub decreases-loop-packet : goal.decreases-loop-packet
decreases-loop-packet l = length l.bytes - l.taken
