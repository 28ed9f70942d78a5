-- Inner: what the code has found of a capture so far, and what it has said of it.
use Rattle.std.specs.Prelude.{◌≡◌, ℕ, Bool, List, ◌++◌, length, string_bytes}
use Rattle.dbusfan_tool.specs.declared.finding.Finding.{Finding}
use Rattle.dbusfan_tool.specs.declared.tally.Tally.{Tally}
use Rattle.dbusfan_tool.specs.declared.wording.Wording.{Wording}
use Rattle.dbusfan_tool.specs.Findings.{judged_count, accepted_count}
use Rattle.dbusfan_tool.specs.Reports.{lines_of, nearest_by, note_lines}

-- The findings of some packets are counted, and their lines are written or wait to be.
pub record IsTally (words : Wording) (each : Bool) (tally : Tally) (written : List ℕ) (found : List Finding) (passed : ℕ) : Type 0 where
  pub words_are : tally.words ≡ words
  pub each_is : tally.each ≡ each
  pub lines_are : written ++ string_bytes tally.lines ≡ lines_of words each found
  pub notes_are : string_bytes tally.notes ≡ note_lines 1 found
  pub packets_are : tally.packets ≡ length found
  pub judged_are : tally.judged ≡ judged_count found
  pub accepted_are : tally.accepted ≡ accepted_count found
  pub passed_over_are : tally.passed_over ≡ passed
  pub nearest_are : tally.nearest.items ≡ nearest_by words found
