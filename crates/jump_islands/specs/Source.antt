-- Source programs, whose jumps go over any number of instructions (own). They run by the steps of programs.
use Rattle.std.specs.Prelude.{◌<◌, ◌-◌, ℕ, Bool, true, false, List, length, Option, Some, IsTrue}
use Rattle.bpf_code.specs.declared.instruction.Ins.{Ins}
use Rattle.bpf_code.specs.declared.operation.Op.{Op}
use Rattle.bpf_code.specs.declared.operation.Op.TheVariants.{Jump, Branch}
use Rattle.bpf_code.specs.declared.operation.Operand.{Operand}
use Rattle.bpf_code.specs.declared.operation.Test.{Test}
use Rattle.bpf_code.specs.Flow.{At, IsPath, Reads, stored_on}
use Rattle.bpf_code.specs.Program.{IsFine, IsReturn}
use Rattle.bpf_code.specs.Table.{code_of}

-- no jump
abbrev pub is_plain_op : Option Op → Bool
is_plain_op (Some Jump) = false
is_plain_op (Some (Branch test operand)) = false
is_plain_op _ = true

-- a jump over k instructions
abbrev pub jump_over : ℕ → Ins
jump_over k = record { code = code_of Jump; jt = 0; jf = 0; k = k }

-- a conditional jump over `hit` instructions where the test holds, and over `miss` where it doesn't
abbrev pub branch_over : Test → Operand → ℕ → ℕ → ℕ → Ins
branch_over test operand k hit miss = record { code = code_of (Branch test operand); jt = hit; jf = miss; k = k }

-- The sentences of an accepted program, but for the limit of its length; distances have no limit.
pub record AreWellMade (program : List Ins) : Type 0 where
  pub some : 0 < length program
  pub fine : (place : ℕ) → place < length program → At program place (IsFine (length program) place)
  pub last : At program (length program - 1) IsReturn
  pub stored : (place : ℕ) (earlier : List ℕ) (k : ℕ) → IsPath program place earlier → At program place (Reads k) → IsTrue (stored_on program k earlier)
