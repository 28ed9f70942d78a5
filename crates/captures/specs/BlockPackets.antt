-- Packets in the blocks of a pcapng file (draft-ietf-opsawg-pcapng).
use Rattle.std.specs.Prelude.{ℕ, ◌+◌, ◌-◌, List, length, Option, Some, None, Result, Ok, Err, nat_lt, slice_get, if◌then◌else◌}
use Rattle.captures.specs.declared.error.CaptureError.{CaptureError}
use Rattle.captures.specs.declared.error.CaptureError.TheVariants as faults
use Rattle.captures.specs.declared.step.Step.{Step}
use Rattle.captures.specs.declared.block.Block.{Block}
use Rattle.captures.specs.declared.interface.Interface.{Interface}
use Rattle.captures.specs.Standard.{block_header_len, timed_len, untimed_len}
use Rattle.captures.specs.Numbers.{half, word}
use Rattle.captures.specs.Options.{nanoseconds_in}
use Rattle.captures.specs.Interfaces.{kept_len, step_with}

-- the packet of an interface, after `front` bytes of a block's body, if the body has as many bytes as are captured
abbrev pub packet_after : ℕ → Interface → Block → List ℕ → Option ℕ → ℕ → ℕ → Result Step CaptureError
packet_after front interface block body time captured original =
    let start = block_header_len + front in
    if nat_lt (length body - front) captured then Err faults.RecordLength
    else Ok (step_with interface (record { len = block.len; start = start; end = start + captured; time = time; is_cut = nat_lt captured original }))

-- The words after the interface's number: a time in two words, the captured and the original length, the packet
-- ("Enhanced Packet Block").
abbrev pub of_interface : Option Interface → Block → List ℕ → Result Step CaptureError
of_interface None block body = Err faults.Interface
of_interface (Some interface) block body =
    packet_after timed_len interface block body (nanoseconds_in interface.times (word block.order body 4) (word block.order body 8)) (word block.order body 12) (word block.order body 16)

abbrev pub timed_packet : List Interface → ℕ → Block → List ℕ → Result Step CaptureError
timed_packet interfaces number block body = of_interface (slice_get interfaces number) block body

-- the interface's number is a word ("Enhanced Packet Block")
abbrev pub enhanced_packet : List Interface → Block → List ℕ → Result Step CaptureError
enhanced_packet interfaces block body =
    if nat_lt (length body) timed_len then Err faults.BlockLength else timed_packet interfaces (word block.order body 0) block body

-- the interface's number is two bytes, and two count dropped packets ("Packet Block")
abbrev pub obsolete_packet : List Interface → Block → List ℕ → Result Step CaptureError
obsolete_packet interfaces block body =
    if nat_lt (length body) timed_len then Err faults.BlockLength else timed_packet interfaces (half block.order body 0) block body

-- the original length, and as much of the packet as the first interface keeps ("Simple Packet Block")
abbrev pub of_first : Option Interface → Block → List ℕ → Result Step CaptureError
of_first None block body = Err faults.Interface
of_first (Some interface) block body =
    packet_after untimed_len interface block body None (kept_len interface (word block.order body 0)) (word block.order body 0)

abbrev pub simple_packet : List Interface → Block → List ℕ → Result Step CaptureError
simple_packet interfaces block body =
    if nat_lt (length body) untimed_len then Err faults.BlockLength else of_first (slice_get interfaces 0) block body
