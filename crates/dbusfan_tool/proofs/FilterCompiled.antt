-- What comes of a filter's expression, from what the steps answer.
use Rattle.std.proofs.Common.{◌≡◌, ◌⊎◌, ℕ, List, Result, Ok, Err, refl, inl, inr}
use Rattle.std.specs.Result.{IsErrAnd, IfErr}
use Rattle.bpf_code.specs.declared.instruction.Ins.{Ins}
use Rattle.bpf_code.specs.declared.error.CodeError.{CodeError}
use Rattle.bpf_code.specs.Program.{WellFormed}
use Rattle.bpf_text.specs.Printing.{IsPrintFault}
use Rattle.bpf_text.specs.Source.{SourceText}
use Rattle.bpf_text.specs.Used.{with_unused_zero}
use Rattle.filter.specs.declared.error.FilterError.{FilterError}
use Rattle.filter.specs.declared.error.FilterError.TheVariants as of_filter
use Rattle.filter.specs.FilterTree.{FilterTree}
use Rattle.filter.specs.Filters.{tree_of}
use Rattle.filter.specs.Grammar.{ReadsAs}
use Rattle.filter.specs.Reading.{filter_at, Finds}
use Rattle.filter_compile.specs.declared.error.CompileError.{CompileError}
use Rattle.filter_compile.specs.declared.error.CompileError.TheVariants as of_compile
use Rattle.filter_compile.specs.Compiled.{IsCompiled, IsRefusal}
use Rattle.command_line.specs.declared.error.Fault.{Fault}
use Rattle.command_line.specs.declared.error.Fault.TheVariants.{Memory}
use Rattle.command_line.specs.Errors.{fault_of_filter, fault_of_code}
use Rattle.dbusfan_tool.specs.Compiling.{IsFilterFault, no_filter, too_heavy, CompilesFilter, filter_refused, filter_compiled, fault_of_filter_compile}
use Rattle.dbusfan_tool.proofs.StepFaults.{handed_on}
use Rattle.dbusfan_tool.proofs.UnusedFields.{ends_as_before, accepted_as_before}
use Rattle.dbusfan_tool.proofs.AcceptedTexts.{only_memory}

module _ (expression : List ℕ) where
  abbrev NoProgram : Fault → Type 0
  NoProgram fault = IsFilterFault expression fault ⊎ (fault ≡ Memory)

  pub of_read_fault : (error : FilterError) → Finds tree_of (Err error) (filter_at expression) → NoProgram (fault_of_filter error)
  of_read_fault (of_filter.Fault at) is = inl (no_filter is)
  of_read_fault of_filter.NoMemory is = inr refl

  pub of_refusal : (tree : FilterTree) → ReadsAs expression tree → (error : CompileError) → IsRefusal tree error → NoProgram (fault_of_filter_compile error)
  of_refusal tree reads of_compile.TooHeavy heavy = inl (too_heavy reads heavy)
  of_refusal tree reads of_compile.NoMemory none = inr refl

  pub not_compiled : {A : Type 0} (found : Result A Fault) (fault : Fault) → IsErrAnd found (λ f. f ≡ fault) → NoProgram fault → IfErr found NoProgram
  not_compiled found fault is none = handed_on NoProgram found fault is none

  abbrev Fails : Fault → Type 0
  Fails fault = CompilesFilter expression (Err fault) ⊎ (fault ≡ Memory)

  pub of_no_program : (fault : Fault) → NoProgram fault → Fails fault
  of_no_program fault (inl is) = inl (filter_refused is)
  of_no_program fault (inr short) = inr short

  pub of_print_fault : (program : List Ins) (error : CodeError) → WellFormed program → IsPrintFault program error → Fails (fault_of_code error)
  of_print_fault program error fine is = rw (only_memory program error fine is) (inr refl)

  pub fails : {A : Type 0} (found : Result A Fault) (fault : Fault) → IsErrAnd found (λ f. f ≡ fault) → Fails fault → IfErr found Fails
  fails found fault is none = handed_on Fails found fault is none

  -- the program that the text names does what the compiled one does
  pub of_text : (tree : FilterTree) (text : List ℕ) (program : List Ins) → ReadsAs expression tree → SourceText text (with_unused_zero program) → WellFormed program → IsCompiled tree program → CompilesFilter expression (Ok text)
  of_text tree text program reads source fine is =
      filter_compiled reads source (accepted_as_before program fine)
      (λ bytes m slots owned v n valid set agrees ends. is bytes m slots owned v n valid set agrees (ends_as_before program _ v n ends))
