-- The numbers and the names of the errors (own).
use Rattle.std.specs.Prelude.{ℕ, List, codes}
use Rattle.jump_islands.specs.declared.error.LowerError.{LowerError}
use Rattle.jump_islands.specs.declared.error.LowerError.TheVariants.{TooMany, NoMemory as NoLowerMemory}
use Rattle.rule_compile.specs.declared.error.CompileError.{CompileError}
use Rattle.rule_compile.specs.declared.error.CompileError.TheVariants.{TooLong, NoMemory}

-- an error's number
abbrev pub compile_error_number : CompileError → ℕ
compile_error_number TooLong = 1
compile_error_number NoMemory = 2

abbrev pub compile_error_name : CompileError → List ℕ
compile_error_name TooLong = codes "TooLong"
compile_error_name NoMemory = codes "NoMemory"

-- what it means for a rule that its source program is refused
abbrev pub error_of : LowerError → CompileError
error_of TooMany = TooLong
error_of NoLowerMemory = NoMemory
