-- The numbers and the names of the errors (own).
use Rattle.std.specs.Prelude.{ℕ, List, ◌++◌, Option, Some, None, codes, decimal}
use Rattle.bpf_code.specs.declared.error.CodeError.{CodeError}
use Rattle.bpf_code.specs.declared.error.CodeError.TheVariants.{Length, Code, Line, Label, FarJump, NoMemory}

-- an error's number
abbrev pub code_error_number : CodeError → ℕ
code_error_number Length = 1
code_error_number (Code place) = 2
code_error_number (Line line) = 3
code_error_number (Label at) = 4
code_error_number (FarJump line) = 5
code_error_number NoMemory = 6

abbrev pub code_error_name : CodeError → List ℕ
code_error_name Length = codes "Length"
code_error_name (Code place) = codes "Code"
code_error_name (Line line) = codes "Line"
code_error_name (Label at) = codes "Label"
code_error_name (FarJump line) = codes "FarJump"
code_error_name NoMemory = codes "NoMemory"

-- the line or the place that is at fault
abbrev pub code_error_place : CodeError → Option ℕ
code_error_place (Code place) = Some place
code_error_place (Line line) = Some line
code_error_place (Label at) = Some at
code_error_place (FarJump line) = Some line
code_error_place _ = None

-- a name, and the line or the place that is at fault, if there is one
abbrev pub text_at : List ℕ → Option ℕ → List ℕ
text_at name None = name
text_at name (Some place) = name ++ codes " at " ++ decimal place

abbrev pub code_error_text : CodeError → List ℕ
code_error_text error = text_at (code_error_name error) (code_error_place error)
