-- What the file of a program comes to, from what the steps answer.
use Rattle.std.proofs.Common.{◌≡◌, ◌⊎◌, ℕ, List, Result, Ok, Err, length, refl, sym, ap, subst, inl, inr, ◌∙◌}
use Rattle.std.specs.Result.{IsErrAnd, IfErr}
use Rattle.bpf_code.specs.declared.instruction.Ins.{Ins}
use Rattle.bpf_code.specs.declared.error.CodeError.{CodeError}
use Rattle.bpf_code.specs.declared.error.CodeError.TheVariants.{Length, Code as NoRow, Line, Label, FarJump, NoMemory}
use Rattle.bpf_code.specs.Program.{WellFormed}
use Rattle.bpf_text.specs.Source.{IsTextFault}
use Rattle.command_line.specs.declared.error.Fault.{Fault}
use Rattle.command_line.specs.declared.error.Fault.TheVariants.{Memory}
use Rattle.command_line.specs.declared.files.FileError.{FileError}
use Rattle.command_line.specs.declared.files.FileError.TheVariants as of_file
use Rattle.command_line.specs.Errors.{fault_of_code, fault_of_file}
use Rattle.command_line.specs.Files.{Content, Whole, ReadsFile}
use Rattle.dbusfan_tool.specs.Program.{Assembles, no_file, no_code, assembled, Checks, no_program, accepted}

-- a program that is assembled from what a file gave, where what the file gave is said in another way
pub assembled_as : {gave gives : Content → Type 0} {program : List Ins} → ((content : Content) → gave content → gives content) → Assembles gave (Ok program) → Assembles gives (Ok program)
assembled_as as_well (assembled {text} read source) = assembled (as_well (Whole text) read) source

module _ (gave : Content → Type 0) where
  abbrev Fails : Fault → Type 0
  Fails fault = Assembles gave (Err fault) ⊎ (fault ≡ Memory)

  -- the fault of a file
  pub of_file_fault : (error : FileError) → ReadsFile gave (Err error) → Fails (fault_of_file error)
  of_file_fault of_file.File gives = inl (no_file gives.1)
  of_file_fault of_file.Memory gives = inr refl

  -- the fault of a text
  pub of_text_fault : (text : List ℕ) (error : CodeError) → gave (Whole text) → IsTextFault text error → Fails (fault_of_code error)
  of_text_fault text Length gives is = absurd is
  of_text_fault text (NoRow place) gives is = absurd is
  of_text_fault text (Line line) gives is = inl (no_code gives (λ e. cc) is)
  of_text_fault text (Label line) gives is = inl (no_code gives (λ e. cc) is)
  of_text_fault text (FarJump line) gives is = inl (no_code gives (λ e. cc) is)
  of_text_fault text NoMemory gives is = inr refl

  -- a step's fault is handed on
  pub fails : {A : Type 0} (found : Result A Fault) (fault : Fault) → IsErrAnd found (λ f. f ≡ fault) → Fails fault → IfErr found Fails
  fails (Ok a) fault is none = absurd is
  fails (Err f) fault is none = subst Fails (sym is) none

  abbrev Refuses : Fault → Type 0
  Refuses fault = Checks gave (Err fault) ⊎ (fault ≡ Memory)

  -- a program that isn't assembled isn't accepted
  pub check_fails : {A : Type 0} (found : Result A Fault) (fault : Fault) → IsErrAnd found (λ f. f ≡ fault) → Fails fault → IfErr found Refuses
  check_fails (Ok a) fault is none = absurd is
  check_fails (Err f) fault is (inl none) = inl (no_program (subst (λ (f : Fault). Assembles gave (Err f)) (sym is) none))
  check_fails (Err f) fault is (inr short) = inr (is ∙ short)

  pub count_fails : (found : Result ℕ Fault) (fault : Fault) → IsErrAnd found (λ f. f ≡ fault) → Refuses fault → Checks gave found ⊎ (found ≡ Err Memory)
  count_fails (Ok count) fault is none = absurd is
  count_fails (Err f) fault is (inl none) = inl (subst (λ (f : Fault). Checks gave (Err f)) (sym is) none)
  count_fails (Err f) fault is (inr short) = inr (ap Err (is ∙ short))

  -- what was accepted is the program
  pub check_accepts : (verified program : List Ins) → Assembles gave (Ok program) → WellFormed program → verified ≡ program → Assembles gave (Ok verified) × WellFormed verified
  check_accepts verified program reads fine same =
      (subst (λ (code : List Ins). Assembles gave (Ok code)) (sym same) reads, subst WellFormed (sym same) fine)

  pub counts : (code verified : List Ins) → code ≡ verified → Assembles gave (Ok verified) → WellFormed verified → Checks gave (Ok (length code))
  counts code verified lent reads fine = subst (λ (code : List Ins). Checks gave (Ok (length code))) (sym lent) (accepted reads fine)
