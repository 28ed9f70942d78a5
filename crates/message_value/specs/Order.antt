-- Numbers in either byte order (D-Bus Specification, "Marshaling").
use Rattle.std.specs.Prelude.{ℕ, List, ◌==◌, Option, Some, None, if◌then◌else◌}
use Rattle.std.specs.Int.{Width, w32, to_le_bytes, to_be_bytes, from_le_bytes, from_be_bytes}
use Rattle.message_value.specs.declared.order.Order.{Order}
use Rattle.message_value.specs.declared.order.Order.TheVariants.{Little, Big}

-- the first byte of a message: `l` or `B`
abbrev pub order_byte : Order → ℕ
order_byte Little = 108
order_byte Big = 66

abbrev pub order_of : ℕ → Option Order
order_of byte = if byte == 108 then Some Little else if byte == 66 then Some Big else None

-- the bytes of a number of a width in bits
abbrev pub number_bytes : Order → Width → ℕ → List ℕ
number_bytes Little width n = to_le_bytes width n
number_bytes Big width n = to_be_bytes width n

-- the number that bytes are, of a width in bits
abbrev pub number_of : Order → Width → List ℕ → ℕ
number_of Little width bytes = from_le_bytes width bytes
number_of Big width bytes = from_be_bytes width bytes

-- the four bytes of a number
abbrev pub word_bytes : Order → ℕ → List ℕ
word_bytes order n = number_bytes order w32 n

-- the number of four bytes
abbrev pub word_of : Order → List ℕ → ℕ
word_of order bytes = number_of order w32 bytes
