-- Programs as bytes (own; the fields are those of linux/filter.h).
use Rattle.std.specs.Prelude.{ℕ, List, ◌∷◌, ◌++◌}
use Rattle.std.specs.Int.{w16, w32, to_le_bytes}
use Rattle.std.specs.List.{flat_map}
use Rattle.bpf_code.specs.declared.instruction.Ins.{Ins}

-- the eight bytes of an instruction: the code, both distances, and k, the lowest byte of each first
abbrev pub ins_bytes : Ins → List ℕ
ins_bytes ins = to_le_bytes w16 ins.code ++ ins.jt ∷ ins.jf ∷ to_le_bytes w32 ins.k

-- the bytes of a program
abbrev pub byte_form : List Ins → List ℕ
byte_form program = flat_map ins_bytes program
