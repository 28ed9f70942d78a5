-- A talk: what a server has answered to the bytes of a client, and where it stands (D-Bus Specification,
-- "Authentication Protocol").
use Rattle.std.specs.Prelude.{ℕ, ◌+◌, ◌==◌, nat_lt, nat_le, List, [], ◌∷◌, ◌++◌, length, if◌then◌else◌}
use Rattle.auth.specs.declared.command.Command.{Command}
use Rattle.auth.specs.declared.terms.Terms.{Terms}
use Rattle.auth.specs.declared.stage.Stage.{Stage}
use Rattle.auth.specs.declared.stage.Stage.TheVariants.{Opening, Start, Begun, Failed}
use Rattle.auth.specs.declared.stage.Reply.{Reply}
use Rattle.auth.specs.declared.stage.Reply.TheVariants.{Rejected}
use Rattle.auth.specs.declared.stage.StageRow.{StageRow}
use Rattle.auth.specs.Lines.{max_line_len, Pieces, pieces_of, through_line}
use Rattle.auth.specs.Commands.{command_of, claim_of}
use Rattle.auth.specs.Admissions.{any_admission, admit}
use Rattle.auth.specs.Stages.{max_rejections, is_over, row_of, reply_bytes}

-- Where a talk stands: what the server brings to it, the stage, how many rejections were sent, and the bytes that came of the next
-- line.
pub record Standing : Type 0 where
  pub terms : Terms
  pub stage : Stage
  pub rejections : ℕ
  pub line : List ℕ

-- where bytes lead, and the answers to them
pub record Outcome : Type 0 where
  pub standing : Standing
  pub answers : List ℕ

-- before the first byte
abbrev pub opening_with : Terms → Standing
opening_with terms = record { terms = terms; stage = Opening; rejections = 0; line = [] }

-- the same where EXTERNAL admits anybody, and ANONYMOUS is admitted
abbrev pub opening : List ℕ → Standing
opening guid = opening_with (record { guid = guid; admission = any_admission })

-- at a stage, with no byte of the next line
abbrev pub at_stage : Standing → Stage → Standing
at_stage s stage = record { terms = s.terms; stage = stage; rejections = s.rejections; line = [] }

abbrev pub no_answer : Standing → Outcome
no_answer s = record { standing = s; answers = [] }

-- the talk ends here
abbrev pub refusal : Standing → Outcome
refusal s = no_answer (at_stage s Failed)

-- one more rejection; the eighth isn't sent, and the talk ends in its place
abbrev pub rejection : Standing → Stage → Outcome
rejection s stage =
    if nat_lt s.rejections max_rejections
    then record { standing = record { terms = s.terms; stage = stage; rejections = s.rejections + 1; line = [] }; answers = reply_bytes s.terms Rejected }
    else refusal s

-- a row's answer is sent, if it isn't one rejection too many
abbrev pub row_answer : Standing → StageRow → Outcome
row_answer s row = by_reply row.reply
  where
    by_reply : Reply → Outcome
    by_reply Rejected = rejection s row.stage
    by_reply reply = record { standing = at_stage s row.stage; answers = reply_bytes s.terms reply }

-- the command of a line, as far as it is admitted
abbrev pub command_at : Standing → List ℕ → Command
command_at s line = admit s.terms.admission s.stage (claim_of line) (command_of line)

-- a line is answered as its row says, unless it is too long; once the talk is over no line is heard
abbrev pub hear : Standing → List ℕ → Outcome
hear s line =
    if is_over s.stage then no_answer s
    else if nat_lt max_line_len (length line + 2) then refusal s
    else row_answer s (row_of s.stage (command_at s line))

-- the bytes of a line without its end are kept, unless they are as many as a line may have
abbrev pub wait : Standing → List ℕ → Outcome
wait s rest =
    if is_over s.stage then no_answer s
    else if nat_le max_line_len (length rest) then refusal s
    else no_answer (record { terms = s.terms; stage = s.stage; rejections = s.rejections; line = rest })

-- what follows some answers
abbrev pub after : List ℕ → Outcome → Outcome
after answers later = record { standing = later.standing; answers = answers ++ later.answers }

-- the lines in turn, and the rest
abbrev pub by_pieces : Standing → List ℕ → List (List ℕ) → Outcome
by_pieces s rest [] = wait s rest
by_pieces s line (next ∷ later) = after (hear s line).answers (by_pieces (hear s line).standing next later)

abbrev pub talk_in : Standing → Pieces → Outcome
talk_in s pieces = by_pieces s pieces.first pieces.later

-- the bytes that came of a line, and then these
abbrev pub by_lines : Standing → List ℕ → Outcome
by_lines s bytes = talk_in s (pieces_of (s.line ++ bytes))

abbrev pub start_of : Standing → Standing
start_of s = record { terms = s.terms; stage = Start; rejections = s.rejections; line = s.line }

-- the first byte is zero, and after it lines come
abbrev pub opening_talk : Standing → List ℕ → Outcome
opening_talk s [] = no_answer s
opening_talk s (first ∷ bytes) = if first == 0 then by_lines (start_of s) bytes else refusal s

-- where bytes lead from where a talk stands
abbrev pub talk : Standing → List ℕ → Outcome
talk s bytes = at s.stage
  where
    at : Stage → Outcome
    at Opening = opening_talk s bytes
    at Begun = no_answer s
    at Failed = no_answer s
    at stage = by_lines s bytes

-- how many bytes are taken at once: those through the next line end, all where none is there, none once messages began
abbrev pub taken_of : Standing → List ℕ → ℕ
taken_of s bytes = at s.stage bytes
  where
    at : Stage → List ℕ → ℕ
    at Opening [] = 0
    at Opening (first ∷ bytes) = through_line s.line bytes + 1
    at Begun bytes = 0
    at Failed bytes = 0
    at stage bytes = through_line s.line bytes
