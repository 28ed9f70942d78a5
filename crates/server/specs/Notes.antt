-- What is told of a bus, in a line each (own).
use Rattle.std.specs.Prelude.{ℕ, ◌++◌, List, codes, decimal, Option, Some, None}
use Rattle.sessions.specs.Errors.{text_of as session_error_text}
use Rattle.sessions.specs.Openings.{opening_text}
use Rattle.server.specs.Limits.{row_of}
use Rattle.server.specs.declared.note.Cause.{Cause}
use Rattle.server.specs.declared.note.Cause.TheVariants.{Session, Opening, Limit, BusEnds}
use Rattle.server.specs.declared.note.Note.{Note}
use Rattle.server.specs.declared.note.Note.TheVariants.{Came, Went, Ended, NoDescriptor, Lost}

abbrev pub cause_text : Cause → List ℕ
cause_text (Session error) = session_error_text error
cause_text (Opening opening) = codes "NoHello (" ++ opening_text opening ++ codes ")"
cause_text (Limit limit) = (row_of limit).name
cause_text BusEnds = codes "the bus ends"

-- a client by its unique name, where it has one
abbrev pub client_text : Option ℕ → List ℕ
client_text (Some number) = codes ":1." ++ decimal number
client_text None = codes "a newcomer"

abbrev pub note_text : Note → List ℕ
note_text (Came number) = client_text (Some number) ++ codes " came"
note_text (Went number) = client_text (Some number) ++ codes " went"
note_text (Ended client cause) = client_text client ++ codes " was ended: " ++ cause_text cause
note_text NoDescriptor = codes "no descriptor is left, newcomers are closed"
note_text (Lost count) = decimal count ++ codes " lines are missing here"
