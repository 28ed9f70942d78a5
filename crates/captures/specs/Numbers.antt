-- Numbers of a capture, in the byte order of the machine that wrote it (draft-ietf-opsawg-pcap and
-- draft-ietf-opsawg-pcapng, "Magic Number" and "Byte-Order Magic").
use Rattle.std.specs.Prelude.{ℕ, ◌+◌, List, [], ◌∷◌, slice_index}
use Rattle.std.specs.Int.{Width, w16, w32, from_le_bytes, from_be_bytes}
use Rattle.captures.specs.declared.order.Order.{Order}
use Rattle.captures.specs.declared.order.Order.TheVariants.{Little, Big}

-- the number that bytes are, of a width in bits
abbrev pub number : Order → Width → List ℕ → ℕ
number Little width bytes = from_le_bytes width bytes
number Big width bytes = from_be_bytes width bytes

-- the number of two bytes at an offset
abbrev pub half : Order → List ℕ → ℕ → ℕ
half order bytes at = number order w16 (slice_index bytes at ∷ slice_index bytes (at + 1) ∷ [])

-- the number of four bytes at an offset
abbrev pub word : Order → List ℕ → ℕ → ℕ
word order bytes at =
    number order w32 (slice_index bytes at ∷ slice_index bytes (at + 1) ∷ slice_index bytes (at + 2) ∷ slice_index bytes (at + 3) ∷ [])
