-- The numbers and names of the errors that end a session (own).
use Rattle.std.specs.Prelude.{ℕ, ◌++◌, List, codes}
use Rattle.message_value.specs.Errors.{name_of as fault_name}
use Rattle.frames.specs.declared.error.FrameError.{FrameError}
use Rattle.frames.specs.declared.error.FrameError.TheVariants as frame_errors
use Rattle.peers.specs.declared.error.AnswerError.{AnswerError}
use Rattle.peers.specs.declared.error.AnswerError.TheVariants as answer_errors
use Rattle.sessions.specs.declared.error.SessionError.{SessionError}
use Rattle.sessions.specs.declared.error.SessionError.TheVariants.{Auth, Message, NoHello, Read, Write, Slow, NoMemory, Monitor}

abbrev pub number_of : SessionError → ℕ
number_of Auth = 1
number_of (Message _) = 2
number_of NoHello = 3
number_of Read = 4
number_of Write = 5
number_of Slow = 6
number_of NoMemory = 7
number_of Monitor = 8

abbrev pub name_of : SessionError → List ℕ
name_of Auth = codes "Auth"
name_of (Message _) = codes "Message"
name_of NoHello = codes "NoHello"
name_of Read = codes "Read"
name_of Write = codes "Write"
name_of Slow = codes "Slow"
name_of NoMemory = codes "NoMemory"
name_of Monitor = codes "Monitor"

-- what is printed of an error: its name, and after it that of a message's fault
abbrev pub text_of : SessionError → List ℕ
text_of (Message fault) = codes "Message " ++ fault_name fault
text_of error = name_of error

-- what ends a session whose bytes aren't kept
abbrev pub error_of_frame : FrameError → SessionError
error_of_frame (frame_errors.Message fault) = Message fault
error_of_frame frame_errors.NoMemory = NoMemory

-- what ends a session whose client isn't answered
abbrev pub error_of_answer : AnswerError → SessionError
error_of_answer answer_errors.Slow = Slow
error_of_answer answer_errors.NoMemory = NoMemory
error_of_answer answer_errors.Monitor = Monitor
