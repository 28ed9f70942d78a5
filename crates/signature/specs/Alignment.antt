-- Where a value of a type may stand (D-Bus Specification, "Summary of D-Bus marshaling").
use Rattle.std.specs.Prelude.{ℕ}
use Rattle.signature.specs.BasicType.{basic_alignment}
use Rattle.signature.specs.DataType.{DataType, basic, variant, array, dict, struct}

-- what the place of a value is a multiple of, in bytes
abbrev pub alignment_of : DataType → ℕ
alignment_of (basic c) = basic_alignment c
alignment_of variant = 1
alignment_of (array t) = 4
alignment_of (dict k v) = 4
alignment_of (struct t ts) = 8
