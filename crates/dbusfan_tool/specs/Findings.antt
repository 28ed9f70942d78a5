-- What is found of the messages of a capture (own).
use Rattle.std.specs.Prelude.{◌≡◌, ◌==◌, ℕ, suc, true, false, List, [], ◌∷◌, ◌++◌, Option, Err, if◌then◌else◌}
use Rattle.message_view.specs.Reading.{message_at}
use Rattle.captures.specs.declared.error.CaptureError.{CaptureError}
use Rattle.captures.specs.Contents.{TimedMessage, Contents, contents}
use Rattle.command_line.specs.Files.{Content, Whole, Begun, Broken}
use Rattle.dbusfan_tool.specs.declared.finding.Finding.{Finding}
use Rattle.dbusfan_tool.specs.declared.finding.Finding.TheVariants.{Judged, Cut, NoMessage}
use Rattle.dbusfan_tool.specs.Judges.{Judge, IsOutcome}

-- what a judge says of a packet, unless it was cut
abbrev pub IsFinding : Judge → TimedMessage → Finding → Type 0
IsFinding judge packet (Judged outcome) = (packet.is_cut ≡ false) × IsOutcome judge packet.message outcome
IsFinding judge packet (NoMessage fault) = (packet.is_cut ≡ false) × (message_at packet.message ≡ Err fault)
IsFinding judge packet Cut = packet.is_cut ≡ true

-- a finding for each packet, in their order
abbrev pub AreFindings : Judge → List TimedMessage → List Finding → Type 0
AreFindings judge [] [] = Unit {0}
AreFindings judge (packet ∷ packets) (finding ∷ findings) = IsFinding judge packet finding × AreFindings judge packets findings
AreFindings judge _ _ = ⊥

-- findings of the first packets of a capture
pub record AreFirst (judge : Judge) (all : Contents) (findings : List Finding) : Type 0 where
  pub packets : List TimedMessage
  pub later : List TimedMessage
  pub all_are : all.messages ≡ packets ++ later
  pub found : AreFindings judge packets findings

-- what is found of a capture: of each packet of D-Bus, how many packets of other link types were passed over, and the
-- fault that ends the file
pub record Report : Type 0 where
  pub findings : List Finding
  pub passed_over : ℕ
  pub fault : Option CaptureError

pub record IsReport (judge : Judge) (all : Contents) (report : Report) : Type 0 where
  pub findings : AreFindings judge all.messages report.findings
  pub passed_over : report.passed_over ≡ all.passed_over
  pub fault : report.fault ≡ all.fault

-- A report on what a file gave: its whole contents; or those of its first bytes, whatever comes after them.
abbrev pub Reports : Judge → Content → Report → Type 0
Reports judge (Whole bytes) report = IsReport judge (contents bytes) report
Reports judge (Begun bytes) report = (more : List ℕ) → IsReport judge (contents (bytes ++ more)) report
Reports judge (Broken bytes) report = ⊥

-- how many messages were judged, and how many of them were accepted: their verdict isn't 0
abbrev pub judged_count : List Finding → ℕ
judged_count [] = 0
judged_count (Judged outcome ∷ later) = suc (judged_count later)
judged_count (_ ∷ later) = judged_count later

abbrev pub accepted_count : List Finding → ℕ
accepted_count [] = 0
accepted_count (Judged outcome ∷ later) = if outcome.verdict == 0 then accepted_count later else suc (accepted_count later)
accepted_count (_ ∷ later) = accepted_count later
