-- How a capture is told from other files (own).
use Rattle.std.specs.Prelude.{ℕ, Bool, true, false, not, List, length, Option, Some, None, is_some, nat_lt, ◌&&◌, if◌then◌else◌}
use Rattle.captures.specs.declared.order.Order.TheVariants.{Big}
use Rattle.captures.specs.declared.magic.Magic.{Magic}
use Rattle.captures.specs.declared.magic.Magic.TheVariants as magics
use Rattle.captures.specs.Standard.{magic_end, magic_len}
use Rattle.captures.specs.Numbers.{word}
use Rattle.captures.specs.Pcap.{magic_of}
use Rattle.captures.specs.Blocks.{order_of}

-- The magic number of pcap; or that of pcapng, which is line ends alone, with the byte-order magic of its section.
abbrev pub begins_as : Option Magic → List ℕ → Bool
begins_as None bytes = false
begins_as (Some (magics.Pcap order unit)) bytes = true
begins_as (Some magics.Pcapng) bytes = not (nat_lt (length bytes) magic_end) && is_some (order_of (word Big bytes 8))

abbrev pub is_capture : List ℕ → Bool
is_capture bytes = if nat_lt (length bytes) magic_len then false else begins_as (magic_of (word Big bytes 0)) bytes
