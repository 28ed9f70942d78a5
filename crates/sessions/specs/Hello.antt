-- The call Hello (D-Bus Specification, "Message Bus Messages": Hello).
use Rattle.std.specs.Prelude.{ℕ, Bool, false, ◌&&◌, List, Option, Some, None, codes}
use Rattle.std.specs.Str.{bytes_eq}
use Rattle.message_view.specs.Message.{Message, interface_of, member_of}
use Rattle.peers.specs.Handling.{is_for_bus, names_bus}

abbrev pub is_hello_member : Option (List ℕ) → Bool
is_hello_member None = false
is_hello_member (Some member) = bytes_eq member (codes "Hello")

-- it is the call Hello of the bus, whatever its arguments
abbrev pub is_hello : Message → Bool
is_hello m = (is_for_bus m && names_bus (interface_of m)) && is_hello_member (member_of m)
