-- The serials of the messages that the bus makes for one session (D-Bus Specification, "Message Format": a serial is
-- never 0).
use Rattle.std.specs.Prelude.{ℕ, ◌==◌, ◌+◌, if◌then◌else◌}

-- the serial after this one: after the greatest comes 1
abbrev pub serial_after : ℕ → ℕ
serial_after serial = if serial == 4294967295 then 1 else serial + 1
