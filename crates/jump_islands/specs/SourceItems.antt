-- Inner: what the code keeps of source programs, from the last instruction to the first, and of drafts.
use Rattle.std.specs.Prelude.{Bool, true, List, map, reverse}
use Rattle.std.specs.List.{list_all}
use Rattle.bpf_code.specs.declared.instruction.Ins.{Ins}
use Rattle.bpf_code.specs.Table.{op_of}
use Rattle.jump_islands.specs.declared.line.Line.{Line}
use Rattle.jump_islands.specs.declared.line.Line.TheVariants as lines
use Rattle.jump_islands.specs.declared.source_ins.SourceIns.{SourceIns}
use Rattle.jump_islands.specs.declared.source_ins.SourceIns.TheVariants.{Plain, Branch, Jump}
use Rattle.jump_islands.specs.Source.{is_plain_op, branch_over, jump_over}

abbrev pub as_ins : SourceIns → Ins
as_ins (Plain ins) = ins
as_ins (Branch test operand k hit miss) = branch_over test operand k hit miss
as_ins (Jump over) = jump_over over

abbrev pub source_of : List SourceIns → List Ins
source_of instructions = map as_ins (reverse instructions)

-- what is kept as no jump is none
abbrev pub is_plain_source : SourceIns → Bool
is_plain_source (Plain ins) = is_plain_op (op_of ins.code)
is_plain_source _ = true

abbrev pub are_plain_sources : List SourceIns → Bool
are_plain_sources instructions = list_all is_plain_source instructions

-- an instruction of a draft's line is no jump
abbrev pub is_plain_line : Line → Bool
is_plain_line (lines.Plain ins) = is_plain_op (op_of ins.code)
is_plain_line _ = true

abbrev pub are_plain : List Line → Bool
are_plain lines = list_all is_plain_line lines
