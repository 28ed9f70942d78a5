-- The names of the errors (own).
use Rattle.std.specs.Prelude.{ℕ, List, codes}
use Rattle.jump_islands.specs.declared.error.LowerError.{LowerError}
use Rattle.jump_islands.specs.declared.error.LowerError.TheVariants.{TooMany, NoMemory as NoLowerMemory}
use Rattle.filter_compile.specs.declared.error.CompileError.{CompileError}
use Rattle.filter_compile.specs.declared.error.CompileError.TheVariants.{TooHeavy, NoMemory}

abbrev pub compile_error_name : CompileError → List ℕ
compile_error_name TooHeavy = codes "TooHeavy"
compile_error_name NoMemory = codes "NoMemory"

-- what it means for a filter that its source program is refused
abbrev pub error_of : LowerError → CompileError
error_of TooMany = TooHeavy
error_of NoLowerMemory = NoMemory
