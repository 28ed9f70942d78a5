-- Which fields of an instruction its row of the table uses (own).
use Rattle.std.specs.Prelude.{ℕ, ◌<◌, ◌^◌, List, map, Option, Some, None}
use Rattle.bpf_code.specs.declared.instruction.Ins.{Ins}
use Rattle.bpf_code.specs.declared.operation.Op.{Op}
use Rattle.bpf_code.specs.declared.operation.Op.TheVariants.{LoadLength, IndexLength, Compute, Negate, Branch, ReturnA, IndexFromA, LoadFromX}
use Rattle.bpf_code.specs.declared.operation.Operand.TheVariants.{Index}
use Rattle.bpf_code.specs.Table.{op_of}

-- k, or 0 where the row doesn't name it
abbrev pub used_k : Op → ℕ → ℕ
used_k LoadLength k = 0
used_k IndexLength k = 0
used_k (Compute f Index) k = 0
used_k Negate k = 0
used_k (Branch test Index) k = 0
used_k ReturnA k = 0
used_k IndexFromA k = 0
used_k LoadFromX k = 0
used_k _ k = k

-- a distance of a conditional jump, or 0 at every other row
abbrev pub used_distance : Op → ℕ → ℕ
used_distance (Branch test operand) distance = distance
used_distance _ distance = 0

abbrev pub used_of : Ins → Option Op → Ins
used_of ins None = ins
used_of ins (Some op) = record {
  code = ins.code;
  jt = used_distance op ins.jt;
  jf = used_distance op ins.jf;
  k = used_k op ins.k;
}

-- an instruction with 0 in each field that its row doesn't use
abbrev pub with_unused_zero_in : Ins → Ins
with_unused_zero_in ins = used_of ins (op_of ins.code)

-- a program with 0 in each field that isn't used
abbrev pub with_unused_zero : List Ins → List Ins
with_unused_zero program = map with_unused_zero_in program

-- the distances and k fit their widths
pub record IsInRange (ins : Ins) : Type 0 where
  pub jt : ins.jt < 2 ^ 8
  pub jf : ins.jf < 2 ^ 8
  pub k : ins.k < 2 ^ 32
