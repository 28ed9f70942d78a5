-- How a program is printed as its bytes (own).
use Rattle.std.specs.Prelude.{ℕ, List, ◌++◌}
use Rattle.std.specs.List.{flat_map}
use Rattle.hex.specs.Hex.{encode_lower}
use Rattle.bpf_code.specs.declared.instruction.Ins.{Ins}
use Rattle.bpf_code.specs.Bytes.{ins_bytes}
use Rattle.command_line.specs.Errors.{line_end}

-- the eight bytes of an instruction's byte form as sixteen lower-case hexadecimal digits
abbrev pub listing_line : Ins → List ℕ
listing_line ins = encode_lower (ins_bytes ins) ++ line_end

-- one instruction a line
abbrev pub listing_of : List Ins → List ℕ
listing_of program = flat_map listing_line program
