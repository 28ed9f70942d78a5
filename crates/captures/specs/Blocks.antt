-- Blocks of a pcapng file (draft-ietf-opsawg-pcapng, "General Block Structure").
use Rattle.std.specs.Prelude.{ℕ, ◌-◌, ◌%◌, Bool, not, List, length, slice_range, Option, Some, None, Result, Ok, Err, nat_lt, nat_le, ◌==◌, ◌&&◌, ◌||◌, if◌then◌else◌}
use Rattle.captures.specs.declared.order.Order.{Order}
use Rattle.captures.specs.declared.order.Order.TheVariants.{Little, Big}
use Rattle.captures.specs.declared.error.CaptureError.{CaptureError}
use Rattle.captures.specs.declared.error.CaptureError.TheVariants as faults
use Rattle.captures.specs.declared.block.BlockKind.{BlockKind}
use Rattle.captures.specs.declared.block.BlockKind.TheVariants as kinds
use Rattle.captures.specs.declared.block.Block.{Block}
use Rattle.captures.specs.declared.block.Framing.{Framing}
use Rattle.captures.specs.declared.block.Framing.TheVariants.{Wants, Whole}
use Rattle.captures.specs.declared.block.TheConstants.{MAX_BLOCK_LEN}
use Rattle.captures.specs.Standard.{big_magic, block_header_len, enhanced_type, interface_type, little_magic, magic_end, min_block_len, obsolete_type, section_len, section_major, section_minor, section_minor_too, section_type, simple_type, trailer_len}
use Rattle.captures.specs.Numbers.{half, word}

-- what a block of a type is ("Block Types")
abbrev pub kind_of : ℕ → BlockKind
kind_of number =
    if number == section_type then kinds.Section
    else if number == interface_type then kinds.Interface
    else if number == obsolete_type then kinds.Obsolete
    else if number == simple_type then kinds.Simple
    else if number == enhanced_type then kinds.Enhanced
    else kinds.Unknown

-- the byte order of a section whose magic is this, read with its highest byte first ("Section Header Block")
abbrev pub order_of : ℕ → Option Order
order_of magic = if magic == big_magic then Some Big else if magic == little_magic then Some Little else None

-- a block's length: whole words, its own two lengths and its type, and no more than is read
abbrev pub is_block_len : ℕ → Bool
is_block_len len = nat_le min_block_len len && nat_le len MAX_BLOCK_LEN && len % 4 == 0

-- a block: its type, its length, its body, and its length again
abbrev pub block_at : Order → List ℕ → Result Framing CaptureError
block_at order bytes =
    let len = word order bytes 4 in
    if not (is_block_len len) then Err faults.BlockLength
    else if nat_lt (length bytes) len then Ok (Wants len)
    else if not (word order bytes (len - trailer_len) == len) then Err faults.BlockLength
    else Ok (Whole (record { kind = kind_of (word order bytes 0); order = order; len = len }))

abbrev pub block_in : List ℕ → Option Order → Result Framing CaptureError
block_in bytes None = Err faults.ByteOrder
block_in bytes (Some order) = block_at order bytes

-- the block at the front of bytes, in the byte order of its section; a section's header says its own
abbrev pub framing_at : Order → List ℕ → Result Framing CaptureError
framing_at order bytes =
    if nat_lt (length bytes) block_header_len then Ok (Wants block_header_len)
    else if not (word Big bytes 0 == section_type) then block_at order bytes
    else if nat_lt (length bytes) magic_end then Ok (Wants magic_end)
    else block_in bytes (order_of (word Big bytes 8))

-- what stands between a block's two lengths
abbrev pub body_of : Block → List ℕ → List ℕ
body_of block bytes = slice_range bytes block_header_len (block.len - trailer_len)

-- what is wrong with a section's header: after its magic its version, 1.0, or 1.2, which is the same, and the
-- section's length, which isn't needed ("Section Header Block")
abbrev pub section_fault : Order → List ℕ → Option CaptureError
section_fault order body =
    if nat_lt (length body) section_len then Some faults.BlockLength
    else if half order body 4 == section_major && (half order body 6 == section_minor || half order body 6 == section_minor_too) then None
    else Some faults.Version
