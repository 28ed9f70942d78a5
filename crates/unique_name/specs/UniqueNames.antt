-- Unique connection names (D-Bus Specification, "Message Bus Names").
use Rattle.std.specs.Prelude.{ℕ, List, codes, decimal, ◌++◌}

-- the name of connection n, in decimal digits
abbrev pub unique_name : ℕ → List ℕ
unique_name n = codes ":1." ++ decimal n
