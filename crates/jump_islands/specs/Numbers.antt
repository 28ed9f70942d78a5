-- The numbers and the names of the errors (own).
use Rattle.std.specs.Prelude.{ℕ, List, codes}
use Rattle.jump_islands.specs.declared.error.LowerError.{LowerError}
use Rattle.jump_islands.specs.declared.error.LowerError.TheVariants.{TooMany, NoMemory}

-- an error's number
abbrev pub lower_error_number : LowerError → ℕ
lower_error_number TooMany = 1
lower_error_number NoMemory = 2

abbrev pub lower_error_name : LowerError → List ℕ
lower_error_name TooMany = codes "TooMany"
lower_error_name NoMemory = codes "NoMemory"
