-- The packets of a capture, one step after the other (draft-ietf-opsawg-pcap; draft-ietf-opsawg-pcapng).
use Rattle.std.specs.Prelude.{◌≡◌, ℕ, List, [], ◌∷◌, ◌++◌, length, Option, Some, None, Result, Ok, Err, nat_lt, if◌then◌else◌}
use Rattle.captures.specs.declared.order.Order.{Order}
use Rattle.captures.specs.declared.order.Order.TheVariants.{Big}
use Rattle.captures.specs.declared.error.CaptureError.{CaptureError}
use Rattle.captures.specs.declared.error.CaptureError.TheVariants as faults
use Rattle.captures.specs.declared.step.Step.{Step}
use Rattle.captures.specs.declared.step.Step.TheVariants.{Skip, More}
use Rattle.captures.specs.declared.magic.Magic.{Magic}
use Rattle.captures.specs.declared.magic.Magic.TheVariants as magics
use Rattle.captures.specs.declared.pcap.TimeUnit.{TimeUnit}
use Rattle.captures.specs.declared.block.Block.{Block}
use Rattle.captures.specs.declared.block.BlockKind.{BlockKind}
use Rattle.captures.specs.declared.block.BlockKind.TheVariants as kinds
use Rattle.captures.specs.declared.block.Framing.{Framing}
use Rattle.captures.specs.declared.block.Framing.TheVariants.{Wants, Whole}
use Rattle.captures.specs.declared.interface.Interface.{Interface}
use Rattle.captures.specs.declared.packets.Format.{Format}
use Rattle.captures.specs.declared.packets.Format.TheVariants as formats
use Rattle.captures.specs.declared.packets.TheConstants.{MAX_INTERFACES}
use Rattle.captures.specs.Standard.{file_header_len, magic_len}
use Rattle.captures.specs.Numbers.{word}
use Rattle.captures.specs.Pcap.{magic_of, header_fault, record_at}
use Rattle.captures.specs.Blocks.{framing_at, body_of, section_fault}
use Rattle.captures.specs.Interfaces.{interface_of}
use Rattle.captures.specs.BlockPackets.{enhanced_packet, obsolete_packet, simple_packet}

-- what the bytes before said: the format, and the interfaces of the section
pub record Reading : Type 0 where
  pub format : Format
  pub interfaces : List Interface

-- before the first byte of a file
abbrev pub start : Reading
start = record { format = formats.Unread; interfaces = [] }

-- what bytes begin with, and what they say of those after them
pub record Progress : Type 0 where
  pub step : Step
  pub after : Reading

-- a step that says nothing of what comes after it
abbrev pub staying : Reading → Result Step CaptureError → Result Progress CaptureError
staying reading (Err fault) = Err fault
staying reading (Ok step) = Ok (record { step = step; after = reading })

-- a header of a number of bytes, if nothing is wrong with it
abbrev pub heading : ℕ → Reading → Option CaptureError → Result Progress CaptureError
heading len after (Some fault) = Err fault
heading len after None = Ok (record { step = Skip len; after = after })

-- a section's header: its byte order holds from now on, and its interfaces come after it
abbrev pub section_step : Block → List ℕ → Result Progress CaptureError
section_step block body = heading block.len (record { format = formats.Pcapng block.order; interfaces = [] }) (section_fault block.order body)

-- an interface comes after those of the section that were described before it
abbrev pub interface_step : Reading → Block → Result Interface CaptureError → Result Progress CaptureError
interface_step reading block (Err fault) = Err fault
interface_step reading block (Ok interface) =
    if nat_lt (length reading.interfaces) MAX_INTERFACES then Ok (record { step = Skip block.len; after = record { format = reading.format; interfaces = reading.interfaces ++ interface ∷ [] } })
    else Err faults.Interfaces

-- what a block of a kind says
abbrev pub body_step : BlockKind → Reading → Block → List ℕ → Result Progress CaptureError
body_step kinds.Section reading block body = section_step block body
body_step kinds.Interface reading block body = interface_step reading block (interface_of block.order body)
body_step kinds.Obsolete reading block body = staying reading (obsolete_packet reading.interfaces block body)
body_step kinds.Simple reading block body = staying reading (simple_packet reading.interfaces block body)
body_step kinds.Enhanced reading block body = staying reading (enhanced_packet reading.interfaces block body)
body_step kinds.Unknown reading block body = staying reading (Ok (Skip block.len))

abbrev pub block_step : Reading → List ℕ → Result Framing CaptureError → Result Progress CaptureError
block_step reading bytes (Err fault) = Err fault
block_step reading bytes (Ok (Wants len)) = staying reading (Ok (More len))
block_step reading bytes (Ok (Whole block)) = body_step block.kind reading block (body_of block bytes)

-- the header of a pcap file
abbrev pub header_step : Reading → Order → TimeUnit → List ℕ → Result Progress CaptureError
header_step reading order unit bytes =
    if nat_lt (length bytes) file_header_len then staying reading (Ok (More file_header_len))
    else heading file_header_len (record { format = formats.Pcap order unit; interfaces = reading.interfaces }) (header_fault order bytes)

-- the first bytes of a file, of which the magic number says the format
abbrev pub first_of : Reading → List ℕ → Option Magic → Result Progress CaptureError
first_of reading bytes None = Err faults.Magic
first_of reading bytes (Some (magics.Pcap order unit)) = header_step reading order unit bytes
first_of reading bytes (Some magics.Pcapng) = block_step reading bytes (framing_at Big bytes)

abbrev pub first_step : Reading → List ℕ → Result Progress CaptureError
first_step reading bytes =
    if nat_lt (length bytes) magic_len then staying reading (Ok (More magic_len)) else first_of reading bytes (magic_of (word Big bytes 0))

-- what the next bytes of a file begin with
abbrev pub step_in : Format → Reading → List ℕ → Result Progress CaptureError
step_in formats.Unread reading bytes = first_step reading bytes
step_in (formats.Pcap order unit) reading bytes = staying reading (record_at order unit bytes)
step_in (formats.Pcapng order) reading bytes = block_step reading bytes (framing_at order bytes)

abbrev pub step_at : Reading → List ℕ → Result Progress CaptureError
step_at reading bytes = step_in reading.format reading bytes

-- A call answered what the bytes begin with, and its reader went on as they say; a fault changes nothing.
abbrev pub Gives : Result Step CaptureError → Reading → Reading → Result Progress CaptureError → Type 0
Gives (Ok step) old new read = read ≡ Ok (record { step = step; after = new })
Gives (Err fault) old new read = (read ≡ Err fault) × (new ≡ old)

-- A file may end where no byte of a record or a block is there, after its header.
abbrev pub end_in : Format → List ℕ → Result (Unit {0}) CaptureError
end_in formats.Unread rest = Err faults.Short
end_in _ [] = Ok tt
end_in _ (byte ∷ rest) = Err faults.Short

abbrev pub end_of : Reading → List ℕ → Result (Unit {0}) CaptureError
end_of reading rest = end_in reading.format rest
