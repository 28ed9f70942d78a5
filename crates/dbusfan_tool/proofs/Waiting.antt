-- A reading stays as it is where more bytes are needed.
use Rattle.std.proofs.Common.{◌≡◌, ℕ, List, length, Option, Some, None, Result, Ok, Err, refl, subst}
use Rattle.std.specs.Prelude.{nat_lt, IfOk}
use Rattle.captures.specs.declared.order.Order.{Order}
use Rattle.captures.specs.declared.order.Order.TheVariants.{Big}
use Rattle.captures.specs.declared.error.CaptureError.{CaptureError}
use Rattle.captures.specs.declared.step.Step.{Step}
use Rattle.captures.specs.declared.step.Step.TheVariants.{Message, Other, Skip, More}
use Rattle.captures.specs.declared.magic.Magic.{Magic}
use Rattle.captures.specs.declared.magic.Magic.TheVariants as magics
use Rattle.captures.specs.declared.pcap.TimeUnit.{TimeUnit}
use Rattle.captures.specs.declared.block.Block.{Block}
use Rattle.captures.specs.declared.block.BlockKind.{BlockKind}
use Rattle.captures.specs.declared.block.BlockKind.TheVariants as kinds
use Rattle.captures.specs.declared.block.Framing.{Framing}
use Rattle.captures.specs.declared.block.Framing.TheVariants.{Wants, Whole}
use Rattle.captures.specs.declared.interface.Interface.{Interface}
use Rattle.captures.specs.declared.packets.Format.{Format}
use Rattle.captures.specs.declared.packets.Format.TheVariants as formats
use Rattle.captures.specs.Numbers.{word}
use Rattle.captures.specs.Pcap.{header_fault, magic_of, record_at}
use Rattle.captures.specs.Blocks.{framing_at, body_of, section_fault}
use Rattle.captures.specs.Interfaces.{interface_of}
use Rattle.captures.specs.BlockPackets.{enhanced_packet, obsolete_packet, simple_packet}
use Rattle.captures.specs.Reading.{Reading, Progress, staying, heading, interface_step, block_step, body_step, header_step, first_of, step_in, step_at}
use Rattle.captures.proofs.Choices.{either_has}

abbrev WaitsAt : Reading → Step → Reading → Type 0
WaitsAt reading (Message packet) after = Unit {0}
WaitsAt reading (Other len link_type) after = Unit {0}
WaitsAt reading (Skip len) after = Unit {0}
WaitsAt reading (More len) after = after ≡ reading

abbrev AllWait : Reading → Result Progress CaptureError → Type 0
AllWait reading read = IfOk read (λ (t : Progress). WaitsAt reading t.step t.after)

staying_waits : (reading : Reading) (x : Result Step CaptureError) → AllWait reading (staying reading x)
staying_waits reading (Err fault) = tt
staying_waits reading (Ok (Message packet)) = tt
staying_waits reading (Ok (Other len link_type)) = tt
staying_waits reading (Ok (Skip len)) = tt
staying_waits reading (Ok (More len)) = refl

heading_waits : (reading : Reading) (len : ℕ) (after : Reading) (fault : Option CaptureError) → AllWait reading (heading len after fault)
heading_waits reading len after None = tt
heading_waits reading len after (Some fault) = tt

interface_waits : (reading : Reading) (block : Block) (described : Result Interface CaptureError) → AllWait reading (interface_step reading block described)
interface_waits reading block (Err fault) = tt
interface_waits reading block (Ok interface) =
    either_has (AllWait reading) (nat_lt (length reading.interfaces) 256) _ _ (λ _. tt) (λ _. tt)

body_waits : (kind : BlockKind) (reading : Reading) (block : Block) (body : List ℕ) → AllWait reading (body_step kind reading block body)
body_waits kinds.Section reading block body = heading_waits reading block.len _ (section_fault block.order body)
body_waits kinds.Interface reading block body = interface_waits reading block (interface_of block.order body)
body_waits kinds.Obsolete reading block body = staying_waits reading (obsolete_packet reading.interfaces block body)
body_waits kinds.Simple reading block body = staying_waits reading (simple_packet reading.interfaces block body)
body_waits kinds.Enhanced reading block body = staying_waits reading (enhanced_packet reading.interfaces block body)
body_waits kinds.Unknown reading block body = tt

block_waits : (reading : Reading) (bytes : List ℕ) (framing : Result Framing CaptureError) → AllWait reading (block_step reading bytes framing)
block_waits reading bytes (Err fault) = tt
block_waits reading bytes (Ok (Wants len)) = refl
block_waits reading bytes (Ok (Whole block)) = body_waits block.kind reading block (body_of block bytes)

header_waits : (reading : Reading) (order : Order) (unit : TimeUnit) (bytes : List ℕ) → AllWait reading (header_step reading order unit bytes)
header_waits reading order unit bytes =
    either_has (AllWait reading) (nat_lt (length bytes) 24) _ _ (λ _. refl) (λ _. heading_waits reading 24 _ (header_fault order bytes))

first_waits : (reading : Reading) (bytes : List ℕ) (magic : Option Magic) → AllWait reading (first_of reading bytes magic)
first_waits reading bytes None = tt
first_waits reading bytes (Some (magics.Pcap order unit)) = header_waits reading order unit bytes
first_waits reading bytes (Some magics.Pcapng) = block_waits reading bytes (framing_at Big bytes)

step_waits : (format : Format) (reading : Reading) (bytes : List ℕ) → AllWait reading (step_in format reading bytes)
step_waits formats.Unread reading bytes =
    either_has (AllWait reading) (nat_lt (length bytes) 4) _ _ (λ _. refl) (λ _. first_waits reading bytes (magic_of (word Big bytes 0)))
step_waits (formats.Pcap order unit) reading bytes = staying_waits reading (record_at order unit bytes)
step_waits (formats.Pcapng order) reading bytes = block_waits reading bytes (framing_at order bytes)

pub stays_waiting : (reading after : Reading) (bytes : List ℕ) (len : ℕ) → step_at reading bytes ≡ Ok (record { step = More len; after = after }) → after ≡ reading
stays_waiting reading after bytes len e =
    let P : Result Progress CaptureError → Type 0 = AllWait reading in subst P e (step_waits reading.format reading bytes)
