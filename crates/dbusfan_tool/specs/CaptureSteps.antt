-- Inner: how far a capture is judged.
use Rattle.std.specs.Prelude.{◌≡◌, ◌≤◌, ◌+◌, ℕ, Bool, true, false, List, ◌++◌, length, drop, Some, Ok}
use Rattle.captures.specs.declared.step.Step.TheVariants.{More}
use Rattle.captures.specs.Reading.{Reading, step_at}
use Rattle.captures.specs.Contents.{TimedMessage, Contents, contents, contents_of}
use Rattle.command_line.specs.Files.{Content, Whole, Begun}
use Rattle.dbusfan_tool.specs.declared.capturing.Taken.{Taken}
use Rattle.dbusfan_tool.specs.declared.capturing.Taken.TheVariants.{Until, Faulty}
use Rattle.dbusfan_tool.specs.declared.finding.Finding.{Finding}
use Rattle.dbusfan_tool.specs.declared.tally.Tally.{Tally}
use Rattle.dbusfan_tool.specs.declared.wording.Wording.{Wording}
use Rattle.dbusfan_tool.specs.Judges.{Judge}
use Rattle.dbusfan_tool.specs.Findings.{AreFindings, IsReport}
use Rattle.dbusfan_tool.specs.Tallies.{IsTally}

-- findings and a count so far, and what is left of a capture
pub record IsFar (judge : Judge) (all : Contents) (found : List Finding) (passed : ℕ) (left : Contents) : Type 0 where
  pub packets : List TimedMessage
  pub messages : all.messages ≡ packets ++ left.messages
  pub findings : AreFindings judge packets found
  pub passed_over : passed + left.passed_over ≡ all.passed_over
  pub fault : left.fault ≡ all.fault

-- Of the bytes that came these are left, whatever comes after them.
abbrev pub IsAt : Judge → List ℕ → List Finding → ℕ → Reading → List ℕ → Type 0
IsAt judge came found passed reading rest = (more : List ℕ) → IsFar judge (contents (came ++ more)) found passed (contents_of reading (rest ++ more))

-- more bytes have to come
abbrev pub Waits : Reading → List ℕ → Type 0
Waits reading rest = (len : ℕ) × (step_at reading rest ≡ Ok (record { step = More len; after = reading }))

-- The packets of some bytes were taken: until more are needed, or the capture has a fault.
abbrev pub TakesTo : Judge → Wording → Bool → (came written bytes : List ℕ) → Reading → Tally → Taken → Type 0
TakesTo judge words each came written bytes reading tally (Until len) =
    (found : List Finding) × (passed : ℕ) × IsTally words each tally written found passed × (len ≤ length bytes) × IsAt judge came found passed reading (drop len bytes) × Waits reading (drop len bytes)
TakesTo judge words each came written bytes reading tally (Faulty fault) =
    (found : List Finding) × (passed : ℕ) × IsTally words each tally written found passed × ((more : List ℕ) → IsReport judge (contents (came ++ more)) (record { findings = found; passed_over = passed; fault = Some fault }))

abbrev pub TakesWithin : List ℕ → Taken → Type 0
TakesWithin bytes (Until len) = len ≤ length bytes
TakesWithin bytes (Faulty fault) = Unit {0}

-- what came of a file, of which more may come where it is open
abbrev pub so_far : Bool → List ℕ → Content
so_far true came = Begun came
so_far false came = Whole came
