-- What the file of a program comes to (own).
use Rattle.std.specs.Prelude.{◌≢◌, ℕ, List, length, Result, Ok, Err}
use Rattle.bpf_code.specs.declared.instruction.Ins.{Ins}
use Rattle.bpf_code.specs.declared.error.CodeError.{CodeError}
use Rattle.bpf_code.specs.declared.error.CodeError.TheVariants.{NoMemory}
use Rattle.bpf_code.specs.Program.{WellFormed}
use Rattle.bpf_text.specs.Source.{SourceText, IsTextFault}
use Rattle.bpf_verify.specs.declared.error.VerifyError.{VerifyError}
use Rattle.bpf_verify.specs.FirstFault.{IsFault}
use Rattle.command_line.specs.declared.error.Fault.{Fault}
use Rattle.command_line.specs.Files.{Content, Whole, Broken}
use Rattle.command_line.specs.declared.error.Fault.TheVariants.{Code, Program, File}

-- What `asm` finds for what its file gave. That the file can't be read comes before its text's fault. A text is any
-- bytes: a line with a byte that isn't ASCII isn't of the form.
pub data Assembles (gave : Content → Type 0) : Result (List Ins) Fault → Type 0 where
  no_file : {came : List ℕ} → gave (Broken came) → Assembles gave (Err File)
  no_code : {text : List ℕ} {fault : CodeError} → gave (Whole text) → fault ≢ NoMemory → IsTextFault text fault → Assembles gave (Err (Code fault))
  assembled : {text : List ℕ} {program : List Ins} → gave (Whole text) → SourceText text program → Assembles gave (Ok program)

-- What `check` finds. The faults of the file and of its text come before the program's.
pub data Checks (gave : Content → Type 0) : Result ℕ Fault → Type 0 where
  no_program : {fault : Fault} → Assembles gave (Err fault) → Checks gave (Err fault)
  refused : {program : List Ins} {fault : VerifyError} → Assembles gave (Ok program) → IsFault program fault → Checks gave (Err (Program fault))
  accepted : {program : List Ins} → Assembles gave (Ok program) → WellFormed program → Checks gave (Ok (length program))
