-- Which instruction a mnemonic with its operands names: the table of instructions, read from its texts (own, in the
-- manner of Linux's `bpf_asm`).
use Rattle.std.specs.Prelude.{ℕ, Bool, true, false, List, Option, Some, None, if◌then◌else◌, codes}
use Rattle.std.specs.Str.{bytes_eq}
use Rattle.bpf_code.specs.declared.operation.Op.{Op}
use Rattle.bpf_code.specs.declared.operation.Op.TheVariants as op
use Rattle.bpf_code.specs.declared.operation.Width.TheVariants.{Word}
use Rattle.bpf_code.specs.declared.operation.Operand.TheVariants.{Constant, Index}
use Rattle.bpf_text.specs.declared.mnemonic.Mnemonic.{Mnemonic}
use Rattle.bpf_text.specs.declared.mnemonic.Mnemonic.TheVariants.{Load, LoadX, LoadHeader, Store, StoreIndex, Compute, Negation, Always, When, Return, ToIndex, FromIndex}
use Rattle.bpf_text.specs.Operands.{Operands, Absent, Number, Length, Place, Indexed, Scratch, Header, Name, NumberTo, NameTo, Targets}

-- the labels that an instruction jumps to
pub data Jumps : Type 0 where
  Stays : Jumps
  Goes : List ℕ → Jumps
  Parts : Targets → Jumps

-- an instruction whose targets are labels
pub record LabelIns : Type 0 where
  pub op : Op
  pub k : ℕ
  pub jumps : Jumps

abbrev pub plain : Op → ℕ → Option LabelIns
plain o k = Some (record { op = o; k = k; jumps = Stays })

-- the operand is this register
abbrev pub if_named : List ℕ → List ℕ → Option LabelIns → Option LabelIns
if_named register name row = if bytes_eq name register then row else None

abbrev pub row_of : Mnemonic → Operands → Option LabelIns
row_of (Load Word) (Number k) = plain op.LoadConstant k
row_of (Load Word) (Scratch k) = plain op.LoadScratch k
row_of (Load Word) Length = plain op.LoadLength 0
row_of (Load width) (Place k) = plain (op.LoadImage width) k
row_of (Load width) (Indexed k) = plain (op.LoadIndexed width) k
row_of LoadX (Number k) = plain op.IndexConstant k
row_of LoadX (Scratch k) = plain op.IndexScratch k
row_of LoadX Length = plain op.IndexLength 0
row_of LoadHeader (Header k) = plain op.IndexHeader k
row_of Store (Scratch k) = plain op.StoreA k
row_of StoreIndex (Scratch k) = plain op.StoreX k
row_of (Compute f) (Number k) = plain (op.Compute f Constant) k
row_of (Compute f) (Name name) = if_named (codes "x") name (plain (op.Compute f Index) 0)
row_of Negation Absent = plain op.Negate 0
row_of Always (Name label) = Some (record { op = op.Jump; k = 0; jumps = Goes label })
row_of (When test) (NumberTo k targets) = Some (record { op = op.Branch test Constant; k = k; jumps = Parts targets })
row_of (When test) (NameTo name targets) =
    if_named (codes "x") name (Some (record { op = op.Branch test Index; k = 0; jumps = Parts targets }))
row_of Return (Number k) = plain op.ReturnConstant k
row_of Return (Name name) = if_named (codes "a") name (plain op.ReturnA 0)
row_of ToIndex Absent = plain op.IndexFromA 0
row_of FromIndex Absent = plain op.LoadFromX 0
row_of _ _ = None

abbrev pub is_absent : Operands → Bool
is_absent Absent = true
is_absent _ = false
