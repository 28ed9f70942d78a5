-- What a judge finds of a file (own).
use Rattle.std.specs.Prelude.{◌≡◌, ◌⊎◌, ◌||◌, ℕ, Bool, true, false, List, ◌++◌, None, Some, Result, Ok, Err}
use Rattle.message_value.specs.declared.error.MsgError.{MsgError}
use Rattle.message_view.specs.Reading.{message_at}
use Rattle.captures.specs.Beginnings.{is_capture}
use Rattle.captures.specs.Contents.{contents}
use Rattle.command_line.specs.declared.error.Fault.{Fault}
use Rattle.command_line.specs.declared.error.Fault.TheVariants.{Message as BadMessage, Hex, File, Memory}
use Rattle.command_line.specs.Files.{Content, Whole, Begun, Broken}
use Rattle.command_line.specs.HexText.{bytes_of_hex}
use Rattle.dbusfan_tool.specs.declared.finding.Finding.{Finding}
use Rattle.dbusfan_tool.specs.declared.judgement.Judgement.{Judgement}
use Rattle.dbusfan_tool.specs.Judges.{Judge, IsOutcome}
use Rattle.dbusfan_tool.specs.Findings.{AreFirst, Report, Reports}
use Rattle.dbusfan_tool.specs.Reports.{words_of, said_of_capture, said_of_outcome, breaking_off}
use Rattle.dbusfan_tool.specs.Answer.{Said, said_of}

-- the bytes that are known of a file
abbrev pub bytes_of : Content → List ℕ
bytes_of (Whole bytes) = bytes
bytes_of (Begun bytes) = bytes
bytes_of (Broken bytes) = bytes

-- what is found of a file: of its one message, or of the messages of a capture
pub data Found : Type 0 where
  of_message : Judgement → Found
  of_capture : Report → Found

-- What a judge finds of a file, where `gave` says what it gave. Its faults are, in this order: that it can't be read, that
-- it is neither a capture nor hexadecimal text, and that of its message. With `each` every file is taken for a capture;
-- what is wrong with a capture is in the report.
pub data Finds (gave : Content → Type 0) (judge : Judge) (each : Bool) : Result Found Fault → Type 0 where
  no_file : {came : List ℕ} → gave (Broken came) → Finds gave judge each (Err File)
  no_hex : {text : List ℕ} → gave (Whole text) → each ≡ false → is_capture text ≡ false → bytes_of_hex text ≡ None → Finds gave judge each (Err Hex)
  no_message : {text bytes : List ℕ} {fault : MsgError} → gave (Whole text) → each ≡ false → bytes_of_hex text ≡ Some bytes → message_at bytes ≡ Err fault → Finds gave judge each (Err (BadMessage fault))
  message : {text bytes : List ℕ} {outcome : Judgement} → gave (Whole text) → each ≡ false → bytes_of_hex text ≡ Some bytes → IsOutcome judge bytes outcome → Finds gave judge each (Ok (of_message outcome))
  capture : {content : Content} {report : Report} → gave content → (each || is_capture (bytes_of content)) ≡ true → Reports judge content report → Finds gave judge each (Ok (of_capture report))

-- Lines were said of the first messages of a capture, of which no more can be read, or for which memory is short.
pub data BreaksOff (gave : Content → Type 0) (judge : Judge) : Fault → List Finding → Type 0 where
  broken : {came : List ℕ} {findings : List Finding} → gave (Broken came) → ((more : List ℕ) → AreFirst judge (contents (came ++ more)) findings) → BreaksOff gave judge File findings
  short : {content : Content} {findings : List Finding} → gave content → ((more : List ℕ) → AreFirst judge (contents (bytes_of content ++ more)) findings) → BreaksOff gave judge Memory findings

-- how it is said what is found
abbrev pub said_of_found : Judge → Bool → Found → Said
said_of_found judge each (of_message outcome) = said_of_outcome (words_of judge) outcome
said_of_found judge each (of_capture report) = said_of_capture (words_of judge) each report

-- What is said of a file by a judge. The lines of a capture's messages are said as they are found, so that a fault of
-- reading may come after some of them.
abbrev pub SaysOfFile : (Content → Type 0) → Judge → Bool → Said → Type 0
SaysOfFile gave judge each said =
    ((found : Result Found Fault) × Finds gave judge each found × (said ≡ said_of (said_of_found judge each) found))
    ⊎ ((fault : Fault) × (findings : List Finding) × (each ≡ true) × BreaksOff gave judge fault findings × (said ≡ breaking_off (words_of judge) findings fault))
