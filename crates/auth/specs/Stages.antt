-- What the server answers at each stage of a talk (D-Bus Specification, "Authentication state diagrams").
use Rattle.std.specs.Prelude.{ℕ, Bool, true, false, ◌++◌, List, [], Option, Some, None, is_some, codes, if◌then◌else◌}
use Rattle.hex.specs.Hex.{encode_lower}
use Rattle.auth.specs.declared.admission.Admission.{Admission}
use Rattle.auth.specs.declared.challenge.CookieChallenge.{CookieChallenge}
use Rattle.auth.specs.declared.command.Command.{Command}
use Rattle.auth.specs.declared.command.Command.TheVariants.{AskExternal, Claim, Trace, AskCookie, OtherAuth, Response, OtherData, Begin, Cancel, Complaint}
use Rattle.auth.specs.declared.stage.Stage.{Stage}
use Rattle.auth.specs.declared.stage.Stage.TheVariants.{Start, Data, Challenged, Ready, Begun, Failed}
use Rattle.auth.specs.declared.stage.Reply.{Reply}
use Rattle.auth.specs.declared.stage.Reply.TheVariants.{Nothing, Challenge, Question, Accepted, Rejected, Unclear}
use Rattle.auth.specs.declared.stage.StageRow.{StageRow}
use Rattle.auth.specs.declared.terms.Terms.{Terms}
use Rattle.auth.specs.Admissions.{admits_external}
use Rattle.auth.specs.Challenges.{question}

-- how many rejections are sent
abbrev pub max_rejections : ℕ
max_rejections = 7

-- messages began, or the client was refused
abbrev pub is_over : Stage → Bool
is_over Begun = true
is_over Failed = true
is_over _ = false

-- the answer to a command, and the stage after it
abbrev pub row : Reply → Stage → StageRow
row reply stage = record { reply = reply; stage = stage }

abbrev pub start_row : Command → StageRow
start_row AskExternal = row Challenge Data
start_row Claim = row Accepted Ready
start_row Trace = row Accepted Ready
start_row AskCookie = row Question Challenged
start_row OtherAuth = row Rejected Start
start_row Complaint = row Rejected Start
start_row Begin = row Nothing Failed
start_row _ = row Unclear Start

abbrev pub data_row : Command → StageRow
data_row Response = row Accepted Ready
data_row OtherData = row Rejected Start
data_row Cancel = row Rejected Start
data_row Complaint = row Rejected Start
data_row Begin = row Nothing Failed
data_row _ = row Unclear Data

-- as where EXTERNAL is asked for, but for what is awaited still
abbrev pub challenged_row : Command → StageRow
challenged_row command = go_on (data_row command).stage
  where
    go_on : Stage → StageRow
    go_on Data = row (data_row command).reply Challenged
    go_on stage = data_row command

abbrev pub ready_row : Command → StageRow
ready_row Begin = row Nothing Begun
ready_row Cancel = row Rejected Start
ready_row Complaint = row Rejected Start
ready_row _ = row Unclear Ready

abbrev pub row_of : Stage → Command → StageRow
row_of Start command = start_row command
row_of Data command = data_row command
row_of Challenged command = challenged_row command
row_of Ready command = ready_row command
row_of stage command = row Nothing stage

abbrev pub line_end : List ℕ
line_end = codes "\r\n"

abbrev pub mechanism_if : Bool → List ℕ → List ℕ
mechanism_if admitted name = if admitted then name else []

-- the mechanisms that are admitted, a space before each
abbrev pub mechanisms : Admission → List ℕ
mechanisms a =
    mechanism_if (admits_external a.external) (codes " EXTERNAL")
    ++ mechanism_if (is_some a.cookie) (codes " DBUS_COOKIE_SHA1")
    ++ mechanism_if a.anonymous (codes " ANONYMOUS")

abbrev pub question_in : Option CookieChallenge → List ℕ
question_in (Some challenge) = question challenge
question_in None = []

-- the bytes of an answer
abbrev pub reply_bytes : Terms → Reply → List ℕ
reply_bytes terms Nothing = []
reply_bytes terms Challenge = codes "DATA\r\n"
reply_bytes terms Question = codes "DATA " ++ encode_lower (question_in terms.admission.cookie) ++ line_end
reply_bytes terms Accepted = codes "OK " ++ terms.guid ++ line_end
reply_bytes terms Rejected = codes "REJECTED" ++ mechanisms terms.admission ++ line_end
reply_bytes terms Unclear = codes "ERROR\r\n"
