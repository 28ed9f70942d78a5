-- A stream of bytes, and the messages in it (D-Bus Specification, "Message Format").
use Rattle.std.specs.Prelude.{◌≡◌, ℕ, ◌<◌, ◌≤◌, ◌⊎◌, List, [], ◌∷◌, ◌++◌, length, take, Option, Some, None, Ok, Err}
use Rattle.message_value.specs.declared.error.MsgError.{MsgError}
use Rattle.message_view.specs.Message.{Message}
use Rattle.message_view.specs.Valid.{Valid}
use Rattle.message_view.specs.Fixed.{framing}
use Rattle.message_view.specs.Reading.{message_at}

-- the bytes spell a message
abbrev pub IsMessage : List ℕ → Type 0
IsMessage bytes = (m : Message) × Valid bytes m

abbrev pub AreMessages : List (List ℕ) → Type 0
AreMessages [] = Unit {0}
AreMessages (message ∷ later) = IsMessage message × AreMessages later

-- messages one after the other
abbrev pub bytes_of : List (List ℕ) → List ℕ
bytes_of [] = []
bytes_of (message ∷ later) = message ++ bytes_of later

-- a whole message comes first
abbrev pub BeginsWithMessage : List ℕ → Type 0
BeginsWithMessage bytes = (message rest : List ℕ) × IsMessage message × (bytes ≡ message ++ rest)

-- More bytes are needed: how long the next message is isn't said yet, or not all of it is there. No fault has shown so far.
abbrev pub IsUnfinished : List ℕ → Type 0
IsUnfinished rest = (framing rest ≡ Ok None) ⊎ ((len : ℕ) × (framing rest ≡ Ok (Some len)) × (length rest < len))

-- No message begins: the fixed part has a fault as soon as its bytes are there, or the whole message has one.
abbrev pub IsFault : List ℕ → MsgError → Type 0
IsFault rest fault = (framing rest ≡ Err fault) ⊎ ((len : ℕ) × (framing rest ≡ Ok (Some len)) × (len ≤ length rest) × (message_at (take len rest) ≡ Err fault))

-- the first bytes, as many as the next message is long by its fixed part
abbrev pub IsFrame : List ℕ → List ℕ → Type 0
IsFrame rest frame = (len : ℕ) × (framing rest ≡ Ok (Some len)) × (len ≤ length rest) × (frame ≡ take len rest)

-- what comes after the messages
abbrev pub EndsIn : List ℕ → Option MsgError → Type 0
EndsIn rest None = IsUnfinished rest
EndsIn rest (Some fault) = IsFault rest fault

-- messages that were cut off a stream's front, and the bytes after them
pub record IsCut (stream : List ℕ) (messages : List (List ℕ)) (rest : List ℕ) : Type 0 where
  pub whole : stream ≡ bytes_of messages ++ rest
  pub each : AreMessages messages

-- All messages that a stream begins with, and then either a rest that needs more bytes, or a fault.
pub record FramesOf (stream : List ℕ) (messages : List (List ℕ)) (rest : List ℕ) (fault : Option MsgError) : Type 0 where
  pub cut : IsCut stream messages rest
  pub ends : EndsIn rest fault

-- where a reader of a stream stands: the bytes that no message has taken, and the fault that was answered
pub record Cutting : Type 0 where
  pub unread : List ℕ
  pub fault : Option MsgError
