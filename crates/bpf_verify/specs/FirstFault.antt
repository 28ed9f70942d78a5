-- Which fault of a program is named (own).
use Rattle.std.specs.Prelude.{◌≡◌, ℕ, ◌+◌, ◌-◌, ◌<◌, ◌≤◌, false, ◌&&◌, List, length, Option, Some, None, if◌then◌else◌, nat_lt, ◌==◌, slice_get}
use Rattle.bpf_code.specs.declared.instruction.Ins.{Ins}
use Rattle.bpf_code.specs.declared.operation.Op.{Op}
use Rattle.bpf_code.specs.declared.operation.Op.TheVariants.{LoadImage, LoadScratch, IndexScratch, StoreA, StoreX, Compute, Branch}
use Rattle.bpf_code.specs.declared.operation.Op.TheVariants.{Jump as Ja}
use Rattle.bpf_code.specs.declared.operation.Operand.TheVariants.{Constant}
use Rattle.bpf_code.specs.declared.operation.Arithmetic.TheVariants.{Div, Mod, ShiftLeft, ShiftRight}
use Rattle.bpf_code.specs.Table.{op_of}
use Rattle.bpf_verify.specs.declared.error.VerifyError.{VerifyError}
use Rattle.bpf_verify.specs.declared.error.VerifyError.TheVariants.{Empty, TooMany, Code, ZeroDivisor, Shift, Scratch, Jump, Last, Unset, Ancillary, NoMemory}
use Rattle.bpf_code.specs.Flow.{At, IsPath, Reads, stored_on}
use Rattle.bpf_code.specs.Program.{IsReturn}

-- the fault of a row by itself
abbrev pub row_fault : ℕ → ℕ → Op → Ins → Option VerifyError
row_fault len place (Compute Div Constant) ins = if ins.k == 0 then Some (ZeroDivisor place) else None
row_fault len place (Compute Mod Constant) ins = if ins.k == 0 then Some (ZeroDivisor place) else None
row_fault len place (Compute ShiftLeft Constant) ins = if nat_lt ins.k 32 then None else Some (Shift place)
row_fault len place (Compute ShiftRight Constant) ins = if nat_lt ins.k 32 then None else Some (Shift place)
row_fault len place LoadScratch ins = if nat_lt ins.k 16 then None else Some (Scratch place)
row_fault len place IndexScratch ins = if nat_lt ins.k 16 then None else Some (Scratch place)
row_fault len place StoreA ins = if nat_lt ins.k 16 then None else Some (Scratch place)
row_fault len place StoreX ins = if nat_lt ins.k 16 then None else Some (Scratch place)
row_fault len place Ja ins = if nat_lt (place + 1 + ins.k) len then None else Some (Jump place)
row_fault len place (Branch test operand) ins =
    if nat_lt (place + 1 + ins.jt) len && nat_lt (place + 1 + ins.jf) len then None else Some (Jump place)
row_fault len place (LoadImage width) ins = if nat_lt ins.k 0xfffff000 then None else Some (Ancillary place)
row_fault len place _ ins = None

abbrev pub code_fault : ℕ → ℕ → Ins → Option Op → Option VerifyError
code_fault len place ins None = Some (Code place)
code_fault len place ins (Some op) = row_fault len place op ins

-- the fault of an instruction by itself, which has at most one
abbrev pub own_fault : ℕ → ℕ → Ins → Option VerifyError
own_fault len place ins = code_fault len place ins (op_of ins.code)

-- each instruction before a place is without a fault of its own
abbrev pub FineBefore : List Ins → ℕ → Type 0
FineBefore program n =
    (place : ℕ) (ins : Ins) → place < n → slice_get program place ≡ Some ins → own_fault (length program) place ins ≡ None

-- the instruction at a place is the first with a fault of its own
pub record IsFirstFault (program : List Ins) (place : ℕ) (fault : VerifyError) : Type 0 where
  pub some : 0 < length program
  pub few : length program ≤ 4096
  pub before : FineBefore program place
  pub ins : Ins
  pub at : slice_get program place ≡ Some ins
  pub is : own_fault (length program) place ins ≡ Some fault

-- some path to a place reads a word that is not stored on it
abbrev pub ReadsUnset : List Ins → ℕ → Type 0
ReadsUnset program place =
    (earlier : List ℕ) × (k : ℕ) × IsPath program place earlier × At program place (Reads k) × (stored_on program k earlier ≡ false)

-- the instructions are fine by themselves, and the last one does not end the program
pub record IsLastFault (program : List Ins) (place : ℕ) : Type 0 where
  pub few : length program ≤ 4096
  pub fine : FineBefore program (length program)
  pub last : place + 1 ≡ length program
  pub goes_on : ¬ At program place IsReturn

-- the first place that some path reads an unset word at
pub record IsFirstUnset (program : List Ins) (place : ℕ) : Type 0 where
  pub reads : ReadsUnset program place
  pub before : (earlier : ℕ) → earlier < place → ¬ ReadsUnset program earlier

-- the first place that reads an unset word, where all else is fine
pub record IsUnsetFault (program : List Ins) (place : ℕ) : Type 0 where
  pub few : length program ≤ 4096
  pub fine : FineBefore program (length program)
  pub last : At program (length program - 1) IsReturn
  pub first : IsFirstUnset program place

-- the fault that is named, by the order in which faults are looked for; want of memory says nothing of a program
abbrev pub IsFault : List Ins → VerifyError → Type 0
IsFault program Empty = length program ≡ 0
IsFault program TooMany = 4096 < length program
IsFault program (Code place) = IsFirstFault program place (Code place)
IsFault program (ZeroDivisor place) = IsFirstFault program place (ZeroDivisor place)
IsFault program (Shift place) = IsFirstFault program place (Shift place)
IsFault program (Scratch place) = IsFirstFault program place (Scratch place)
IsFault program (Jump place) = IsFirstFault program place (Jump place)
IsFault program (Ancillary place) = IsFirstFault program place (Ancillary place)
IsFault program (Last place) = IsLastFault program place
IsFault program (Unset place) = IsUnsetFault program place
IsFault program NoMemory = ⊥
