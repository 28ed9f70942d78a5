-- The numbers and the names of the faults of signatures (own).
use Rattle.std.specs.Prelude.{ℕ, List, codes}
use Rattle.signature.specs.declared.error.SigError.{SigError}
use Rattle.signature.specs.declared.error.SigError.TheVariants as faults

abbrev pub number_of : SigError → ℕ
number_of faults.TooLong = 1
number_of faults.UnknownCode = 2
number_of faults.ArrayDepth = 3
number_of faults.StructDepth = 4
number_of faults.EmptyStruct = 5
number_of faults.BadDict = 6
number_of faults.Unfinished = 7

abbrev pub name_of : SigError → List ℕ
name_of faults.TooLong = codes "TooLong"
name_of faults.UnknownCode = codes "UnknownCode"
name_of faults.ArrayDepth = codes "ArrayDepth"
name_of faults.StructDepth = codes "StructDepth"
name_of faults.EmptyStruct = codes "EmptyStruct"
name_of faults.BadDict = codes "BadDict"
name_of faults.Unfinished = codes "Unfinished"
