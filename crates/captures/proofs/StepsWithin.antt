-- A step lies within the bytes.
use Rattle.std.proofs.Common.{◌≡◌, ℕ, ◌+◌, ◌-◌, ◌<◌, ◌≤◌, false, List, length, Option, Some, None, Result, Ok, Err, arith, subst, lit≤}
use Rattle.std.specs.Prelude.{nat_lt, ◌==◌, IfOk, slice_get}
use Rattle.std.proofs.lemmas.Bool.{ltb-true, ltb-false}
use Rattle.captures.specs.declared.order.Order.{Order}
use Rattle.captures.specs.declared.order.Order.TheVariants.{Big}
use Rattle.captures.specs.declared.error.CaptureError.{CaptureError}
use Rattle.captures.specs.declared.step.Packet.{Packet}
use Rattle.captures.specs.declared.step.Step.{Step}
use Rattle.captures.specs.declared.step.Step.TheVariants.{Message, Other}
use Rattle.captures.specs.declared.magic.Magic.{Magic}
use Rattle.captures.specs.declared.magic.Magic.TheVariants as magics
use Rattle.captures.specs.declared.pcap.TimeUnit.{TimeUnit}
use Rattle.captures.specs.declared.block.Block.{Block}
use Rattle.captures.specs.declared.block.BlockKind.{BlockKind}
use Rattle.captures.specs.declared.block.BlockKind.TheVariants as kinds
use Rattle.captures.specs.declared.block.Framing.{Framing}
use Rattle.captures.specs.declared.block.Framing.TheVariants.{Wants, Whole}
use Rattle.captures.specs.declared.interface.Interface.{Interface}
use Rattle.captures.specs.declared.packets.Format.{Format}
use Rattle.captures.specs.declared.packets.Format.TheVariants as formats
use Rattle.captures.specs.Numbers.{half, word}
use Rattle.captures.specs.Options.{nanoseconds_in}
use Rattle.captures.specs.Pcap.{header_fault, magic_of, record_at, captured_len}
use Rattle.captures.specs.Blocks.{framing_at, body_of, section_fault}
use Rattle.captures.specs.BlockLengths.{IsFramed}
use Rattle.captures.specs.Interfaces.{kept_len, step_with, interface_of}
use Rattle.captures.specs.BlockPackets.{packet_after, of_interface, enhanced_packet, obsolete_packet, of_first, simple_packet}
use Rattle.captures.specs.Reading.{Reading, Progress, staying, heading, interface_step, block_step, body_step, header_step, first_of, step_in, step_at, Gives}
use Rattle.captures.specs.Contents.{IsWithin}
use Rattle.captures.proofs.Choices.{either_has}
use Rattle.captures.proofs.Parts.{framing_there, body_len}

-- the bytes have what was read
abbrev AllWithin : List ℕ → Result Progress CaptureError → Type 0
AllWithin bytes read = IfOk read (λ (t : Progress). IsWithin bytes t.step)

abbrev StepWithin : List ℕ → Result Step CaptureError → Type 0
StepWithin bytes read = IfOk read (IsWithin bytes)

staying_within : (reading : Reading) (bytes : List ℕ) (x : Result Step CaptureError) → StepWithin bytes x → AllWithin bytes (staying reading x)
staying_within reading bytes (Err fault) within = tt
staying_within reading bytes (Ok step) within = within

heading_within : (bytes : List ℕ) (len : ℕ) (after : Reading) (fault : Option CaptureError) → 0 < len → len ≤ length bytes → AllWithin bytes (heading len after fault)
heading_within bytes len after None some le = (some, le)
heading_within bytes len after (Some fault) some le = tt

record_within : (order : Order) (unit : TimeUnit) (bytes : List ℕ) → StepWithin bytes (record_at order unit bytes)
record_within order unit bytes =
    let P = StepWithin bytes in
    either_has P (nat_lt (length bytes) 16) _ _ (λ few. (ltb-true (length bytes) 16 few, lit≤ tt)) (λ _.
    either_has P (nat_lt 134217728 (captured_len order bytes)) _ _ (λ _. tt) (λ (small : nat_lt 134217728 (captured_len order bytes) ≡ false).
    let most : captured_len order bytes ≤ 134217728 = ltb-false 134217728 (captured_len order bytes) small in
    either_has P (nat_lt (length bytes) (16 + captured_len order bytes)) _ _ (λ few. (ltb-true (length bytes) (16 + captured_len order bytes) few, let fits : 16 + captured_len order bytes ≤ 268435456 = omega arith in fits)) (λ (enough : nat_lt (length bytes) (16 + captured_len order bytes) ≡ false).
    let le : 16 + captured_len order bytes ≤ length bytes = ltb-false (length bytes) (16 + captured_len order bytes) enough in
    (let a : 0 < 16 + captured_len order bytes = omega arith in a, let b : 16 ≤ 16 + captured_len order bytes = omega arith in b, let c : 16 + captured_len order bytes ≤ 16 + captured_len order bytes = omega arith in c, le))))

step_with_within : (bytes : List ℕ) (interface : Interface) (packet : Packet) → IsWithin bytes (Message packet) → IsWithin bytes (step_with interface packet)
step_with_within bytes interface packet within =
    either_has (IsWithin bytes) (interface.link_type == 231) (Message packet) (Other packet.len interface.link_type) (λ _. within) (λ _. (within.0, within.3))

-- a block that lies within the bytes, with its body
pub record Lies (bytes : List ℕ) (block : Block) (body : List ℕ) : Type 0 where
  pub min : 12 ≤ block.len
  pub there : block.len ≤ length bytes
  pub body_is : length body ≡ block.len - 12

packet_within : (bytes : List ℕ) (front : ℕ) (interface : Interface) (block : Block) (body : List ℕ) (time : Option ℕ) (captured original : ℕ) → front ≤ length body → Lies bytes block body → StepWithin bytes (packet_after front interface block body time captured original)
packet_within bytes front interface block body time captured original le lies =
    either_has (StepWithin bytes) (nat_lt (length body - front) captured) _ _ (λ _. tt) (λ (enough : nat_lt (length body - front) captured ≡ false).
    let room : captured ≤ length body - front = ltb-false (length body - front) captured enough in
    step_with_within bytes interface (record { len = block.len; start = 8 + front; end = 8 + front + captured; time = time; is_cut = nat_lt captured original })
    (omega (arith, lies.min), omega arith, omega (arith, lies.min, lies.body_is, room, le), lies.there))

of_interface_within : (bytes : List ℕ) (interface : Option Interface) (block : Block) (body : List ℕ) → 20 ≤ length body → Lies bytes block body → StepWithin bytes (of_interface interface block body)
of_interface_within bytes None block body le lies = tt
of_interface_within bytes (Some interface) block body le lies =
    packet_within bytes 20 interface block body (nanoseconds_in interface.times (word block.order body 4) (word block.order body 8)) (word block.order body 12) (word block.order body 16) le lies

of_first_within : (bytes : List ℕ) (interface : Option Interface) (block : Block) (body : List ℕ) → 4 ≤ length body → Lies bytes block body → StepWithin bytes (of_first interface block body)
of_first_within bytes None block body le lies = tt
of_first_within bytes (Some interface) block body le lies =
    packet_within bytes 4 interface block body None (kept_len interface (word block.order body 0)) (word block.order body 0) le lies

interface_within : (reading : Reading) (bytes : List ℕ) (block : Block) (body : List ℕ) (described : Result Interface CaptureError) → Lies bytes block body → AllWithin bytes (interface_step reading block described)
interface_within reading bytes block body (Err fault) lies = tt
interface_within reading bytes block body (Ok interface) lies =
    either_has (AllWithin bytes) (nat_lt (length reading.interfaces) 256) _ _ (λ _. (let a : 0 < block.len = omega (arith, lies.min) in a, lies.there)) (λ _. tt)

body_within : (kind : BlockKind) (reading : Reading) (bytes : List ℕ) (block : Block) (body : List ℕ) → Lies bytes block body → AllWithin bytes (body_step kind reading block body)
body_within kinds.Section reading bytes block body lies =
    heading_within bytes block.len _ (section_fault block.order body) (omega (arith, lies.min)) lies.there
body_within kinds.Interface reading bytes block body lies = interface_within reading bytes block body (interface_of block.order body) lies
body_within kinds.Obsolete reading bytes block body lies =
    staying_within reading bytes (obsolete_packet reading.interfaces block body)
    (either_has (StepWithin bytes) (nat_lt (length body) 20) _ _ (λ _. tt) (λ (enough : nat_lt (length body) 20 ≡ false). of_interface_within bytes (slice_get reading.interfaces (half block.order body 0)) block body (ltb-false (length body) 20 enough) lies))
body_within kinds.Enhanced reading bytes block body lies =
    staying_within reading bytes (enhanced_packet reading.interfaces block body)
    (either_has (StepWithin bytes) (nat_lt (length body) 20) _ _ (λ _. tt) (λ (enough : nat_lt (length body) 20 ≡ false). of_interface_within bytes (slice_get reading.interfaces (word block.order body 0)) block body (ltb-false (length body) 20 enough) lies))
body_within kinds.Simple reading bytes block body lies =
    staying_within reading bytes (simple_packet reading.interfaces block body)
    (either_has (StepWithin bytes) (nat_lt (length body) 4) _ _ (λ _. tt) (λ (enough : nat_lt (length body) 4 ≡ false). of_first_within bytes (slice_get reading.interfaces 0) block body (ltb-false (length body) 4 enough) lies))
body_within kinds.Unknown reading bytes block body lies = (omega (arith, lies.min), lies.there)

block_within : (reading : Reading) (bytes : List ℕ) (framing : Result Framing CaptureError) → IfOk framing (IsFramed bytes) → AllWithin bytes (block_step reading bytes framing)
block_within reading bytes (Err fault) there = tt
block_within reading bytes (Ok (Wants len)) there = there
block_within reading bytes (Ok (Whole block)) there =
    body_within block.kind reading bytes block (body_of block bytes) (record { min = there.0; there = there.1; body_is = body_len block bytes there.0 there.1 })

header_within : (reading : Reading) (order : Order) (unit : TimeUnit) (bytes : List ℕ) → AllWithin bytes (header_step reading order unit bytes)
header_within reading order unit bytes =
    either_has (AllWithin bytes) (nat_lt (length bytes) 24) _ _ (λ few. (ltb-true (length bytes) 24 few, lit≤ tt)) (λ (enough : nat_lt (length bytes) 24 ≡ false).
    heading_within bytes 24 _ (header_fault order bytes) (omega arith) (ltb-false (length bytes) 24 enough))

first_of_within : (reading : Reading) (bytes : List ℕ) (magic : Option Magic) → AllWithin bytes (first_of reading bytes magic)
first_of_within reading bytes None = tt
first_of_within reading bytes (Some (magics.Pcap order unit)) = header_within reading order unit bytes
first_of_within reading bytes (Some magics.Pcapng) = block_within reading bytes (framing_at Big bytes) (framing_there Big bytes)

step_in_within : (format : Format) (reading : Reading) (bytes : List ℕ) → AllWithin bytes (step_in format reading bytes)
step_in_within formats.Unread reading bytes =
    either_has (AllWithin bytes) (nat_lt (length bytes) 4) _ _ (λ few. (ltb-true (length bytes) 4 few, lit≤ tt)) (λ _. first_of_within reading bytes (magic_of (word Big bytes 0)))
step_in_within (formats.Pcap order unit) reading bytes = staying_within reading bytes (record_at order unit bytes) (record_within order unit bytes)
step_in_within (formats.Pcapng order) reading bytes = block_within reading bytes (framing_at order bytes) (framing_there order bytes)

pub step_within : (reading : Reading) (bytes : List ℕ) (progress : Progress) → step_at reading bytes ≡ Ok progress → IsWithin bytes progress.step
step_within reading bytes progress e =
    let P : Result Progress CaptureError → Type 0 = AllWithin bytes in subst P e (step_in_within reading.format reading bytes)

pub answer_within : (format : Format) (old new : Reading) (bytes : List ℕ) (result : Result Step CaptureError) → Gives result old new (step_in format old bytes) → IfOk result (IsWithin bytes)
answer_within format old new bytes (Err fault) gives = tt
answer_within format old new bytes (Ok step) gives =
    let P : Result Progress CaptureError → Type 0 = AllWithin bytes in subst P gives (step_in_within format old bytes)
