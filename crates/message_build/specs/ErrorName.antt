-- The numbers and the names of the errors (own).
use Rattle.std.specs.Prelude.{ℕ, List, codes}
use Rattle.message_build.specs.declared.error.BuildError.{BuildError}
use Rattle.message_build.specs.declared.error.BuildError.TheVariants.{Invalid, TooLarge, NoMemory}
use Rattle.message_build.specs.declared.stamping.StampError.{StampError}
use Rattle.message_build.specs.declared.stamping.StampError.TheVariants as stamp_errors

abbrev pub number_of : BuildError → ℕ
number_of Invalid = 1
number_of TooLarge = 2
number_of NoMemory = 3

abbrev pub name_of : BuildError → List ℕ
name_of Invalid = codes "Invalid"
name_of TooLarge = codes "TooLarge"
name_of NoMemory = codes "NoMemory"

abbrev pub stamp_number_of : StampError → ℕ
stamp_number_of stamp_errors.TooLarge = 1
stamp_number_of stamp_errors.NoMemory = 2

abbrev pub stamp_name_of : StampError → List ℕ
stamp_name_of stamp_errors.TooLarge = codes "TooLarge"
stamp_name_of stamp_errors.NoMemory = codes "NoMemory"
