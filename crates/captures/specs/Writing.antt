-- Files of the format pcap, as they are written here: lowest byte first (draft-ietf-opsawg-pcap).
use Rattle.std.specs.Prelude.{ℕ, ◌*◌, ◌/◌, ◌%◌, ◌≤◌, false, List, [], ◌∷◌, ◌++◌, length, Some, None, map}
use Rattle.std.specs.Int.{w16, w32, to_le_bytes, to_be_bytes}
use Rattle.captures.specs.declared.step.TheConstants.{MAX_PACKET_LEN}
use Rattle.captures.specs.declared.pcap.TimeUnit.{TimeUnit}
use Rattle.captures.specs.declared.pcap.TimeUnit.TheVariants.{Micro, Nano}
use Rattle.captures.specs.declared.writing.TheConstants.{MAX_TIME}
use Rattle.captures.specs.Standard.{linktype_dbus, little_micro, little_nano, nanos_per_second, version_major, version_minor}
use Rattle.captures.specs.Pcap.{nanoseconds}
use Rattle.captures.specs.Contents.{TimedMessage, Contents}

-- the magic number (section 4, "Magic Number")
abbrev pub magic_bytes : TimeUnit → List ℕ
magic_bytes Micro = to_be_bytes w32 little_micro
magic_bytes Nano = to_be_bytes w32 little_nano

-- a file's header: magic number, version, two words that are 0, snap length and link type (section 4, "General File
-- Structure")
abbrev pub header_bytes : TimeUnit → List ℕ
header_bytes unit =
    magic_bytes unit ++ to_le_bytes w16 version_major ++ to_le_bytes w16 version_minor ++ to_le_bytes w32 0 ++ to_le_bytes w32 0
    ++ to_le_bytes w32 MAX_PACKET_LEN ++ to_le_bytes w32 linktype_dbus

-- the header of a record: seconds, whole units of the rest, and its length twice (section 5, "Packet Record")
abbrev pub record_bytes : TimeUnit → ℕ → ℕ → List ℕ
record_bytes unit time len =
    to_le_bytes w32 (time / nanos_per_second) ++ to_le_bytes w32 (time % nanos_per_second / nanoseconds unit) ++ to_le_bytes w32 len ++ to_le_bytes w32 len

-- a message and when it was seen
pub record Record : Type 0 where
  pub time : ℕ
  pub message : List ℕ

-- what a record can hold
pub record Fits (entry : Record) : Type 0 where
  pub time : entry.time ≤ MAX_TIME
  pub message : length entry.message ≤ MAX_PACKET_LEN

abbrev pub AllFit : List Record → Type 0
AllFit [] = Unit {0}
AllFit (entry ∷ later) = Fits entry × AllFit later

abbrev pub records_of : TimeUnit → List Record → List ℕ
records_of unit [] = []
records_of unit (entry ∷ later) = (record_bytes unit entry.time (length entry.message) ++ entry.message) ++ records_of unit later

-- a file of these messages
abbrev pub file_of : TimeUnit → List Record → List ℕ
file_of unit all = header_bytes unit ++ records_of unit all

-- a message as it is read again: its time in whole units
abbrev pub message_again : TimeUnit → Record → TimedMessage
message_again unit entry = record { message = entry.message; time = Some (entry.time / nanoseconds unit * nanoseconds unit); is_cut = false }

abbrev pub contents_again : TimeUnit → List Record → Contents
contents_again unit all = record { messages = map (message_again unit) all; passed_over = 0; fault = None }
