-- The names of the faults of filter expressions, and what is said of them (own).
use Rattle.std.specs.Prelude.{ℕ, List, ◌++◌, codes, decimal}
use Rattle.filter.specs.declared.error.Fault.{Fault}
use Rattle.filter.specs.declared.error.Fault.TheVariants as faults
use Rattle.filter.specs.declared.error.FaultAt.{FaultAt}
use Rattle.filter.specs.declared.error.FilterError.{FilterError}
use Rattle.filter.specs.declared.error.FilterError.TheVariants as errors

abbrev pub name_of : Fault → List ℕ
name_of faults.TooLong = codes "TooLong"
name_of faults.BadByte = codes "BadByte"
name_of faults.Unquoted = codes "Unquoted"
name_of faults.BadEscape = codes "BadEscape"
name_of faults.NoTest = codes "NoTest"
name_of faults.UnknownWord = codes "UnknownWord"
name_of faults.ArgNumber = codes "ArgNumber"
name_of faults.Depth = codes "Depth"
name_of faults.BadNumber = codes "BadNumber"
name_of faults.Unopened = codes "Unopened"
name_of faults.Unclosed = codes "Unclosed"
name_of faults.BadOperator = codes "BadOperator"
name_of faults.BadValue = codes "BadValue"
name_of faults.BadType = codes "BadType"
name_of faults.BadField = codes "BadField"
name_of faults.NoConnective = codes "NoConnective"

-- the name and the place
abbrev pub fault_text : FaultAt → List ℕ
fault_text at = name_of at.fault ++ codes " at " ++ decimal at.place

abbrev pub error_text : FilterError → List ℕ
error_text (errors.Fault at) = fault_text at
error_text errors.NoMemory = codes "NoMemory"
