-- How it is said what is found of messages (own).
use Rattle.std.specs.Prelude.{ℕ, ◌+◌, Bool, not, List, [], ◌∷◌, ◌++◌, codes, decimal, string_bytes, Option, Some, None, is_some, ◌==◌, if◌then◌else◌}
use Rattle.message_value.specs.Errors.{name_of as message_name}
use Rattle.captures.specs.declared.error.CaptureError.{CaptureError}
use Rattle.captures.specs.Errors.{text_of as capture_text}
use Rattle.command_line.specs.declared.error.Fault.{Fault}
use Rattle.command_line.specs.Errors.{line_end, fault_line, fault_status}
use Rattle.dbusfan_tool.specs.declared.wording.Wording.{Wording}
use Rattle.dbusfan_tool.specs.declared.wording.Wording.TheVariants.{OfRule, OfNearest, OfProgram}
use Rattle.dbusfan_tool.specs.declared.finding.Finding.{Finding}
use Rattle.dbusfan_tool.specs.declared.judgement.Judgement.{Judgement}
use Rattle.dbusfan_tool.specs.declared.finding.Finding.TheVariants.{Judged, Cut, NoMessage}
use Rattle.dbusfan_tool.specs.Judges.{Judge, by_rule, by_filter, by_program, rule_words}
use Rattle.dbusfan_tool.specs.Findings.{Report, judged_count, accepted_count}
use Rattle.dbusfan_tool.specs.Nearest.{Near, nearest_of, near_lines}
use Rattle.dbusfan_tool.specs.Answer.{Said}

-- whose words are used
abbrev pub words_of : Judge → Wording
words_of (by_rule tree owns front nearest) = rule_words nearest
words_of (by_filter tree owns front) = OfRule
words_of (by_program code edition traced) = OfProgram

-- whether the rule or the filter matches
abbrev pub match_word : Bool → List ℕ
match_word holds = if holds then codes "match" else codes "no match"

-- the same, and why it doesn't, or which tests of the filter hold
abbrev pub match_line : Bool → List ℕ → List ℕ
match_line holds reasons = match_word holds ++ reasons ++ line_end

-- what is said of one message: whether the rule or the filter matches, or the program's verdict and the number of its steps
abbrev pub outcome_line : Wording → Judgement → List ℕ
outcome_line OfRule outcome = match_line (not (outcome.verdict == 0)) (string_bytes outcome.reasons)
outcome_line (OfNearest count) outcome = match_line (not (outcome.verdict == 0)) (string_bytes outcome.reasons)
outcome_line OfProgram outcome = codes "verdict " ++ decimal outcome.verdict ++ codes " steps " ++ decimal outcome.steps ++ line_end

-- the lines of a program's steps, which are none where they aren't wanted
abbrev pub trace_lines : Wording → Judgement → List ℕ
trace_lines OfRule outcome = []
trace_lines (OfNearest count) outcome = []
trace_lines OfProgram outcome = string_bytes outcome.trace

-- a message alone: the status is 0 where it is accepted, else 1
abbrev pub said_of_outcome : Wording → Judgement → Said
said_of_outcome words outcome = record { lines = []; output = trace_lines words outcome ++ outcome_line words outcome; error = []; status = if outcome.verdict == 0 then 1 else 0 }

abbrev pub numbered_line : Wording → ℕ → Judgement → List ℕ
numbered_line words number outcome = trace_lines words outcome ++ (decimal number ++ codes " " ++ outcome_line words outcome)

-- if only the nearest messages are wanted, their lines come last
abbrev pub judged_line : Wording → ℕ → Judgement → List ℕ
judged_line OfRule number outcome = numbered_line OfRule number outcome
judged_line (OfNearest count) number outcome = []
judged_line OfProgram number outcome = numbered_line OfProgram number outcome

-- on standard output: a message's number and what is said of it, after the lines of the steps
abbrev pub verdict_line : Wording → ℕ → Finding → List ℕ
verdict_line words number (Judged outcome) = judged_line words number outcome
verdict_line words number Cut = []
verdict_line words number (NoMessage fault) = []

-- on standard error: why a packet is passed over
abbrev pub note_line : ℕ → Finding → List ℕ
note_line number (Judged outcome) = []
note_line number Cut = codes "dbusfan: packet Cut at " ++ decimal number ++ line_end
note_line number (NoMessage fault) = codes "dbusfan: message " ++ message_name fault ++ codes " at " ++ decimal number ++ line_end

-- the lines of findings, whose numbers go on from one
abbrev pub verdict_lines : Wording → ℕ → List Finding → List ℕ
verdict_lines words number [] = []
verdict_lines words number (finding ∷ later) = verdict_line words number finding ++ verdict_lines words (number + 1) later

abbrev pub note_lines : ℕ → List Finding → List ℕ
note_lines number [] = []
note_lines number (finding ∷ later) = note_line number finding ++ note_lines (number + 1) later

-- how many messages are accepted, of how many
abbrev pub accepted_word : Wording → List ℕ
accepted_word OfRule = codes " match"
accepted_word (OfNearest count) = codes " match"
accepted_word OfProgram = codes " accepted"

abbrev pub count_line : Wording → ℕ → ℕ → List ℕ
count_line words accepted judged = decimal accepted ++ codes " of " ++ decimal judged ++ accepted_word words ++ line_end

-- what is said of all messages, where no line is wanted for each: whether the rule matches some, or how many the program
-- accepts
abbrev pub summary_line : Wording → ℕ → ℕ → List ℕ
summary_line OfRule accepted judged = match_line (not (accepted == 0)) []
summary_line (OfNearest count) accepted judged = match_line (not (accepted == 0)) []
summary_line OfProgram accepted judged = count_line OfProgram accepted judged

-- the line after those of the messages, and those before it
abbrev pub last_line : Wording → Bool → ℕ → ℕ → List ℕ
last_line words each accepted judged = if each then count_line words accepted judged else summary_line words accepted judged

abbrev pub lines_of : Wording → Bool → List Finding → List ℕ
lines_of words each findings = if each then verdict_lines words 1 findings else []

-- the nearest messages, if they are wanted
abbrev pub nearest_by : Wording → List Finding → List Near
nearest_by OfRule findings = []
nearest_by (OfNearest count) findings = nearest_of count findings
nearest_by OfProgram findings = []

-- how many packets of other link types were passed over, where there are any
abbrev pub passed_over_line : ℕ → List ℕ
passed_over_line count = if count == 0 then [] else codes "dbusfan: packets of other link types: " ++ decimal count ++ line_end

-- the fault of a file
abbrev pub capture_line : Option CaptureError → List ℕ
capture_line None = []
capture_line (Some fault) = codes "dbusfan: capture " ++ capture_text fault ++ line_end

-- 2 where the file has a fault, else 0 where a message is accepted, else 1
abbrev pub capture_status : Option CaptureError → ℕ → ℕ
capture_status fault accepted = if is_some fault then 2 else if accepted == 0 then 1 else 0

-- What is said of a capture: with `each` a line a message, whose number is its packet's among those of D-Bus, or such lines of the
-- nearest messages alone, and last how many are accepted.
abbrev pub said_of_capture : Wording → Bool → Report → Said
said_of_capture words each report = record {
  lines = lines_of words each report.findings;
  output = near_lines (nearest_by words report.findings) ++ last_line words each (accepted_count report.findings) (judged_count report.findings);
  error = note_lines 1 report.findings ++ passed_over_line report.passed_over ++ capture_line report.fault;
  status = capture_status report.fault (accepted_count report.findings);
}

-- What is said where reading a capture breaks off: the lines of the first messages, and the fault.
abbrev pub breaking_off : Wording → List Finding → Fault → Said
breaking_off words findings fault = record { lines = verdict_lines words 1 findings; output = []; error = fault_line fault; status = fault_status fault }
