-- The basic types (D-Bus Specification, "Basic types").
use Rattle.std.specs.Prelude.{ℕ, ◌||◌, ◌==◌, if◌then◌else◌}
use Rattle.signature.specs.declared.basic_type.BasicType.{BasicType}
use Rattle.signature.specs.declared.basic_type.BasicType.TheVariants as basics

-- the byte of a basic type in a signature
abbrev pub byte_of : BasicType → ℕ
byte_of basics.Byte = 121
byte_of basics.Boolean = 98
byte_of basics.Int16 = 110
byte_of basics.Uint16 = 113
byte_of basics.Int32 = 105
byte_of basics.Uint32 = 117
byte_of basics.Int64 = 120
byte_of basics.Uint64 = 116
byte_of basics.Double = 100
byte_of basics.String = 115
byte_of basics.ObjectPath = 111
byte_of basics.Signature = 103
byte_of basics.UnixFd = 104

-- y g; n q; x t d; b i u h s o
abbrev pub basic_alignment : ℕ → ℕ
basic_alignment c =
    if c == 121 || c == 103 then 1
    else if c == 110 || c == 113 then 2
    else if c == 120 || c == 116 || c == 100 then 8
    else 4
