-- Inner: reading the first bytes of a file.
use Rattle.std.specs.Prelude.{◌≡◌, ◌≤◌, ◌⊎◌, ℕ, Bool, true, false, List, [], ◌++◌, length, Result, Ok, Err, string_bytes}
use Rattle.std.specs.Global.{Vec}
use Rattle.captures.specs.Contents.{contents}
use Rattle.command_line.specs.declared.error.Fault.{Fault}
use Rattle.command_line.specs.declared.error.Fault.TheVariants as faults
use Rattle.command_line.specs.declared.files.FileError.{FileError}
use Rattle.command_line.specs.Files.{Content, Whole, Broken, ReadsFile}
use Rattle.dbusfan_tool.specs.declared.beginning.Beginning.{Beginning}
use Rattle.dbusfan_tool.specs.declared.capturing.CaptureEnd.{CaptureEnd}
use Rattle.dbusfan_tool.specs.declared.finding.Finding.{Finding}
use Rattle.dbusfan_tool.specs.declared.judgement.Judgement.{Judgement}
use Rattle.dbusfan_tool.specs.declared.wording.Wording.{Wording}
use Rattle.dbusfan_tool.specs.Judges.{Judge}
use Rattle.dbusfan_tool.specs.Findings.{AreFirst, Reports}
use Rattle.dbusfan_tool.specs.FileJudgements.{bytes_of, of_message, Finds, BreaksOff}
use Rattle.dbusfan_tool.specs.Reports.{lines_of}
use Rattle.dbusfan_tool.specs.Tallies.{IsTally}
use Rattle.dbusfan_tool.specs.CaptureSteps.{so_far}

-- a file can't be read, or memory is short
abbrev pub FailsToRead : (Content → Type 0) → Fault → Type 0
FailsToRead gave fault = ((came : List ℕ) × (fault ≡ faults.File) × gave (Broken came)) ⊎ (fault ≡ faults.Memory)

-- The first bytes say whether the file is a capture, whatever comes after them.
abbrev pub IsSure : Beginning → Type 0
IsSure beginning = beginning.is_open ≡ true → 12 ≤ length beginning.bytes.items

abbrev pub HasBegun : (Content → Type 0) → Result Beginning FileError → Type 0
HasBegun gave (Ok beginning) = gave (so_far beginning.is_open beginning.bytes.items) × IsSure beginning
HasBegun gave (Err error) = ReadsFile gave (Err error)

-- what came first, and more where the file was open
abbrev pub Continues : Bool → List ℕ → List ℕ → Type 0
Continues true first bytes = (more : List ℕ) × (bytes ≡ first ++ more)
Continues false first bytes = bytes ≡ first

abbrev pub ReadsRest : Bool → List ℕ → (Content → Type 0) → Result (Vec ℕ) FileError → Type 0
ReadsRest is_open first gave (Ok bytes) = gave (Whole bytes.items) × Continues is_open first bytes.items
ReadsRest is_open first gave (Err error) = ReadsFile gave (Err error)

-- The end of a capture: its lines were written.
pub record EndsCapture (judge : Judge) (words : Wording) (each : Bool) (beginning : Beginning) (written : List ℕ) (gave : Content → Type 0) (end : CaptureEnd) : Type 0 where
  pub content : Content
  pub found : List Finding
  pub passed : ℕ
  pub gives : gave content
  pub goes_on : Continues beginning.is_open beginning.bytes.items (bytes_of content)
  pub tally : IsTally words each end.tally written found passed
  pub none_left : string_bytes end.tally.lines ≡ []
  pub reports : Reports judge content (record { findings = found; passed_over = passed; fault = end.fault })
  pub first : (more : List ℕ) → AreFirst judge (contents (bytes_of content ++ more)) found

-- Reading it breaks off: the lines of its first messages were written.
abbrev pub BreaksCapture : Judge → Wording → Bool → List ℕ → (Content → Type 0) → Fault → Type 0
BreaksCapture judge words each written gave fault = (findings : List Finding) × BreaksOff gave judge fault findings × (written ≡ lines_of words each findings)

-- what is found of the message that a file has as hexadecimal text, or that memory is short
abbrev pub FindsMessage : (Content → Type 0) → Judge → Result Judgement Fault → Type 0
FindsMessage gave judge (Ok outcome) = Finds gave judge false (Ok (of_message outcome))
FindsMessage gave judge (Err fault) = Finds gave judge false (Err fault) ⊎ (fault ≡ faults.Memory)
