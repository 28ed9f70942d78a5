-- What a whole file contains: its packets of D-Bus in their order, and the fault that ends them.
use Rattle.std.specs.Prelude.{◌≡◌, ℕ, zero, suc, ◌-◌, ◌<◌, ◌≤◌, Bool, true, false, List, [], ◌∷◌, ◌++◌, length, drop, slice_range, Option, Some, None, Result, Ok, Err}
use Rattle.captures.specs.declared.error.CaptureError.{CaptureError}
use Rattle.captures.specs.declared.error.CaptureError.TheVariants as faults
use Rattle.captures.specs.declared.step.Packet.{Packet}
use Rattle.captures.specs.declared.step.Step.{Step}
use Rattle.captures.specs.declared.step.Step.TheVariants.{Message, Other, Skip, More}
use Rattle.captures.specs.declared.block.TheConstants.{MAX_BLOCK_LEN}
use Rattle.captures.specs.Reading.{Reading, Progress, start, step_at, end_of}

-- a message, when it was seen, and whether it is only the beginning of one
pub record TimedMessage : Type 0 where
  pub message : List ℕ
  pub time : Option ℕ
  pub is_cut : Bool

-- the messages, how many packets of other link types were passed over, and the fault
pub record Contents : Type 0 where
  pub messages : List TimedMessage
  pub passed_over : ℕ
  pub fault : Option CaptureError

abbrev pub message_in : Packet → List ℕ → TimedMessage
message_in packet bytes = record { message = slice_range bytes packet.start packet.end; time = packet.time; is_cut = packet.is_cut }

-- how many bytes a step takes
abbrev pub len_of : Step → ℕ
len_of (Message packet) = packet.len
len_of (Other len link_type) = len
len_of (Skip len) = len
len_of (More len) = 0

abbrev pub takes : Step → Bool
takes (More len) = false
takes _ = true

-- A step lies within the bytes, and takes at least one of them; or more of them are needed, and never more than the
-- longest block has.
abbrev pub IsWithin : List ℕ → Step → Type 0
IsWithin bytes (Message packet) = (0 < packet.len) × (packet.start ≤ packet.end) × (packet.end ≤ packet.len) × (packet.len ≤ length bytes)
IsWithin bytes (Other len link_type) = (0 < len) × (len ≤ length bytes)
IsWithin bytes (Skip len) = (0 < len) × (len ≤ length bytes)
IsWithin bytes (More len) = (length bytes < len) × (len ≤ MAX_BLOCK_LEN)

-- what a step adds in front of the contents after it
abbrev pub ahead : Step → List ℕ → Contents → Contents
ahead (Message packet) bytes later = record { messages = message_in packet bytes ∷ later.messages; passed_over = later.passed_over; fault = later.fault }
ahead (Other len link_type) bytes later = record { messages = later.messages; passed_over = suc later.passed_over; fault = later.fault }
ahead _ bytes later = later

-- nothing but an end
abbrev pub ending : Result (Unit {0}) CaptureError → Contents
ending (Ok _) = record { messages = []; passed_over = 0; fault = None }
ending (Err fault) = record { messages = []; passed_over = 0; fault = Some fault }

-- a step and what comes after it; where more bytes are needed, the file ends too early
abbrev pub by_step : Step → List ℕ → (ℕ → Contents) → Contents
by_step (Message packet) bytes later = ahead (Message packet) bytes (later packet.len)
by_step (Other len link_type) bytes later = ahead (Other len link_type) bytes (later len)
by_step (Skip len) bytes later = ahead (Skip len) bytes (later len)
by_step (More len) bytes later = ending (Err faults.Short)

abbrev pub by_progress : Result Progress CaptureError → List ℕ → (Reading → ℕ → Contents) → Contents
by_progress (Err fault) bytes later = ending (Err fault)
by_progress (Ok progress) bytes later = by_step progress.step bytes (later progress.after)

-- the contents of the bytes of a file past the first k of them
abbrev pub contents_past : ℕ → Reading → List ℕ → Contents
contents_past k reading [] = ending (end_of reading [])
contents_past (suc k) reading (byte ∷ rest) = contents_past k reading rest
contents_past zero reading (byte ∷ rest) = by_progress (step_at reading (byte ∷ rest)) (byte ∷ rest) (λ after len. contents_past (len - 1) after rest)

-- the contents of the rest of a file
abbrev pub contents_of : Reading → List ℕ → Contents
contents_of reading rest = contents_past 0 reading rest

-- the contents of a file
abbrev pub contents : List ℕ → Contents
contents file = contents_of start file

-- A call of the reader: the bytes that came since the last one, and what it answered.
pub record Call : Type 0 where
  pub piece : List ℕ
  pub progress : Progress

-- all bytes that came
abbrev pub bytes_of : List Call → List ℕ
bytes_of [] = []
bytes_of (call ∷ later) = call.piece ++ bytes_of later

-- Calls that took something, from a reading with unread bytes to another, each at the bytes that the one before left
-- and those that came since.
abbrev pub AreCalls : List Call → Reading → List ℕ → Reading → List ℕ → Type 0
AreCalls [] reading unread last left = (reading ≡ last) × (unread ≡ left)
AreCalls (call ∷ later) reading unread last left =
    let bytes = unread ++ call.piece in
    (step_at reading bytes ≡ Ok call.progress) × (takes call.progress.step ≡ true) × AreCalls later call.progress.after (drop (len_of call.progress.step) bytes) last left

-- what calls gave, in front of what comes after them
abbrev pub all_ahead : List Call → List ℕ → Contents → Contents
all_ahead [] unread later = later
all_ahead (call ∷ calls) unread later =
    let bytes = unread ++ call.piece in
    ahead call.progress.step bytes (all_ahead calls (drop (len_of call.progress.step) bytes) later)
