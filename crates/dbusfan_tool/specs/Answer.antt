-- What a command has to say, and how it is said (own).
use Rattle.std.specs.Prelude.{◌≡◌, ℕ, Bool, true, false, List, [], ◌++◌, codes, decimal, Result, Ok, Err}
use Rattle.bpf_code.specs.declared.instruction.Ins.{Ins}
use Rattle.command_line.specs.declared.error.Fault.{Fault}
use Rattle.command_line.specs.declared.error.Fault.TheVariants.{File}
use Rattle.command_line.specs.Errors.{line_end, fault_line, fault_status}
use Rattle.dbusfan_tool.specs.Listing.{listing_of}

-- what is written on standard output and on standard error, and the status. The lines of a capture's messages are written
-- before the rest of the output, in parts as the messages are read.
pub record Said : Type 0 where
  pub lines : List ℕ
  pub output : List ℕ
  pub error : List ℕ
  pub status : ℕ

-- a fault has one line on standard error
abbrev pub failing : Fault → Said
failing fault = record { lines = []; output = []; error = fault_line fault; status = fault_status fault }

-- a text on standard output
abbrev pub saying : List ℕ → Said
saying text = record { lines = []; output = text; error = []; status = 0 }

-- the byte form of a program
abbrev pub said_of_asm : List Ins → Said
said_of_asm program = saying (listing_of program)

-- how many instructions a program has that is accepted
abbrev pub said_of_check : ℕ → Said
said_of_check count = saying (codes "ok " ++ decimal count ++ line_end)

-- what is said after lines
abbrev pub after_lines : List ℕ → Said → Said
after_lines lines said = record said { lines = lines }

-- how what was found is said
abbrev pub said_of : {A : Type 0} → (A → Said) → Result A Fault → Said
said_of say (Ok found) = say found
said_of say (Err fault) = failing fault

-- What is said was written on `out`, and on `err` where `out` did not fail; where it did, that is the fault.
pub record Tells (said : Said) (out : (lines text : List ℕ) → Type 0) (err : List ℕ → Type 0) (out_failed : Bool) (status : ℕ) : Type 0 where
  pub output : out said.lines said.output
  pub error : out_failed ≡ false → err said.error
  pub answered : out_failed ≡ false → status ≡ said.status
  pub refused : out_failed ≡ true → status ≡ 4
  pub named : out_failed ≡ true → err (fault_line File)
