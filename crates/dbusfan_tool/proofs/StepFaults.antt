-- The fault of a step is handed on, whatever a command says of it.
use Rattle.std.proofs.Common.{◌≡◌, ◌⊎◌, ℕ, ◌<◌, List, None, Result, Ok, Err, refl, sym, subst, inl, inr}
use Rattle.std.specs.Result.{IsErrAnd, IfErr}
use Rattle.std.specs.Global.{Vec}
use Rattle.command_line.specs.declared.error.Fault.{Fault}
use Rattle.command_line.specs.declared.error.Fault.TheVariants.{Rule, Hex, File, Memory}
use Rattle.match_key.specs.declared.error.RuleError.{RuleError}
use Rattle.match_key.specs.declared.error.RuleError.TheVariants.{TooLong, UnknownKey, KeyTwice, BadValue, Unquoted, PathTwice, ArgNumber, NoMemory}
use Rattle.match_rule.specs.RuleTree.{RuleTree, weight_of}
use Rattle.match_rule.specs.Reading.{rule_at}
use Rattle.rule_compile.specs.declared.error.CompileError.{CompileError}
use Rattle.rule_compile.specs.declared.error.CompileError.TheVariants as of_compile
use Rattle.rule_compile.specs.Compiled.{IsRefusal}
use Rattle.command_line.specs.declared.files.FileError.{FileError}
use Rattle.command_line.specs.declared.files.FileError.TheVariants as of_file
use Rattle.command_line.specs.declared.hex_text.HexError.{HexError}
use Rattle.command_line.specs.declared.hex_text.HexError.TheVariants as of_hex
use Rattle.command_line.specs.Errors.{fault_of_rule, fault_of_file, fault_of_hex}
use Rattle.command_line.specs.Files.{Content, Broken, ReadsFile}
use Rattle.command_line.specs.HexText.{bytes_of_hex}
use Rattle.dbusfan_tool.specs.Compiling.{fault_of_compile}

module _ (Fails : Fault → Type 0) where
  pub handed_on : {A : Type 0} (found : Result A Fault) (fault : Fault) → IsErrAnd found (λ f. f ≡ fault) → Fails fault → IfErr found Fails
  handed_on (Ok a) fault is none = absurd is
  handed_on (Err f) fault is none = subst Fails (sym is) none

  module _ (short : Fails Memory) where
    pub rule_fault : (rule : List ℕ) → ((fault : RuleError) → rule_at rule ≡ Err fault → Fails (Rule fault)) → (error : RuleError) → ((error ≡ NoMemory) ⊎ (rule_at rule ≡ Err error)) → Fails (fault_of_rule error)
    rule_fault rule no_rule error (inl none) = rw none short
    rule_fault rule no_rule NoMemory (inr reads) = short
    rule_fault rule no_rule TooLong (inr reads) = no_rule TooLong reads
    rule_fault rule no_rule UnknownKey (inr reads) = no_rule UnknownKey reads
    rule_fault rule no_rule KeyTwice (inr reads) = no_rule KeyTwice reads
    rule_fault rule no_rule BadValue (inr reads) = no_rule BadValue reads
    rule_fault rule no_rule Unquoted (inr reads) = no_rule Unquoted reads
    rule_fault rule no_rule PathTwice (inr reads) = no_rule PathTwice reads
    rule_fault rule no_rule ArgNumber (inr reads) = no_rule ArgNumber reads

    pub refusal : (tree : RuleTree) → (4096 < weight_of tree → Fails (Rule TooLong)) → (error : CompileError) → IsRefusal tree error → Fails (fault_of_compile error)
    refusal tree too_long of_compile.TooLong long = too_long long
    refusal tree too_long of_compile.NoMemory long = short

    pub file_fault : (gave : Content → Type 0) → ((came : List ℕ) → gave (Broken came) → Fails File) → (error : FileError) → ReadsFile gave (Err error) → Fails (fault_of_file error)
    file_fault gave no_file of_file.File gives = no_file gives.0 gives.1
    file_fault gave no_file of_file.Memory gives = short

    pub hex_fault : (text : List ℕ) → (bytes_of_hex text ≡ None → Fails Hex) → (error : HexError) → (◌≡◌ {A = Result (Vec ℕ) HexError} (Err error) (Err of_hex.Hex) → bytes_of_hex text ≡ None) → Fails (fault_of_hex error)
    hex_fault text no_hex of_hex.Hex none = no_hex (none refl)
    hex_fault text no_hex of_hex.Memory none = short
