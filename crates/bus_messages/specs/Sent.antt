-- The messages that the bus makes (D-Bus Specification, "Message Bus Messages").
use Rattle.std.specs.Prelude.{ℕ, List, codes, Option, Some, Result, Ok, Err}
use Rattle.signature.specs.Name.{bus_name}
use Rattle.message_view.specs.declared.kind.Kind.{Kind}
use Rattle.message_view.specs.declared.kind.Kind.TheVariants.{MethodReturn, Error, Signal}
use Rattle.message_build.specs.declared.error.BuildError.{BuildError}
use Rattle.message_build.specs.declared.error.BuildError.TheVariants.{Invalid, TooLarge, NoMemory}
use Rattle.message_build.specs.Asked.{Asked, nothing_asked}
use Rattle.message_build.specs.Building.{AreAsked, AsksNone, AsksTooMuch}
use Rattle.bus_messages.specs.declared.body.Body.{Body}
use Rattle.bus_messages.specs.declared.error_name.ErrorName.{ErrorName}
use Rattle.bus_messages.specs.Bodies.{with_text, with_texts, with_body}
use Rattle.bus_messages.specs.ErrorNames.{full_name, text_of}
use Rattle.bus_messages.specs.FilterFaults.{bad_filter_name, bad_filter_text}

abbrev pub bus_path : List ℕ
bus_path = codes "/org/freedesktop/DBus"

-- no reply is expected
abbrev pub no_reply_expected : ℕ
no_reply_expected = 1

-- a message from the bus without a body
abbrev pub from_bus : Kind → ℕ → Option (List ℕ) → Asked
from_bus kind serial to = record (nothing_asked kind no_reply_expected serial) { destination = to; sender = Some bus_name }

-- the answer to the message of a serial, with the arguments of a body
abbrev pub reply_asked : ℕ → Option (List ℕ) → ℕ → Body → Asked
reply_asked serial to reply_to body = with_body (record (from_bus MethodReturn serial to) { reply_serial = Some reply_to }) body

-- the error of this whole name that answers the message of a serial; its one argument is a text
abbrev pub error_with : ℕ → Option (List ℕ) → ℕ → List ℕ → List ℕ → Asked
error_with serial to reply_to name text =
    with_text (record (from_bus Error serial to) { error_name = Some name; reply_serial = Some reply_to }) text

-- its argument is what the error says
abbrev pub error_asked : ℕ → Option (List ℕ) → ℕ → ErrorName → Asked
error_asked serial to reply_to name = error_with serial to reply_to (full_name name) (text_of name)

-- the error that answers the message of a serial with what is said of its filter
abbrev pub bad_filter_asked : ℕ → Option (List ℕ) → ℕ → List ℕ → Asked
bad_filter_asked serial to reply_to fault = error_with serial to reply_to bad_filter_name (bad_filter_text fault)

-- a signal of the bus, whose arguments are texts
abbrev pub signal_asked : ℕ → Option (List ℕ) → List ℕ → List (List ℕ) → Asked
signal_asked serial to member texts =
    with_texts (record (from_bus Signal serial to) { path = Some bus_path; interface = Some bus_name; member = Some member }) texts

-- What building a message answers: bytes that are valid and those of the message; that no valid message is of this
-- form; that it would be above the limits; or that memory ran out.
abbrev pub Builds : Asked → Result (List ℕ) BuildError → Type 0
Builds asked (Ok bytes) = AreAsked asked bytes
Builds asked (Err Invalid) = AsksNone asked
Builds asked (Err TooLarge) = AsksTooMuch asked
Builds asked (Err NoMemory) = Unit {0}
