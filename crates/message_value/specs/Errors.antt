-- The numbers and the names of the faults of messages (own).
use Rattle.std.specs.Prelude.{ℕ, List, codes}
use Rattle.message_value.specs.declared.error.MsgError.{MsgError}
use Rattle.message_value.specs.declared.error.MsgError.TheVariants as faults

abbrev pub number_of : MsgError → ℕ
number_of faults.Order = 1
number_of faults.Kind = 2
number_of faults.Version = 3
number_of faults.Serial = 4
number_of faults.TooLarge = 5
number_of faults.FieldCode = 6
number_of faults.FieldType = 7
number_of faults.FieldTwice = 8
number_of faults.FieldMissing = 9
number_of faults.BadName = 10
number_of faults.Padding = 11
number_of faults.BadBool = 12
number_of faults.BadText = 13
number_of faults.BadSignature = 14
number_of faults.ArrayLength = 15
number_of faults.Depth = 16
number_of faults.Short = 17
number_of faults.Trailing = 18
number_of faults.UnixFds = 19
number_of faults.Reserved = 20

abbrev pub name_of : MsgError → List ℕ
name_of faults.Order = codes "Order"
name_of faults.Kind = codes "Kind"
name_of faults.Version = codes "Version"
name_of faults.Serial = codes "Serial"
name_of faults.TooLarge = codes "TooLarge"
name_of faults.FieldCode = codes "FieldCode"
name_of faults.FieldType = codes "FieldType"
name_of faults.FieldTwice = codes "FieldTwice"
name_of faults.FieldMissing = codes "FieldMissing"
name_of faults.BadName = codes "BadName"
name_of faults.Padding = codes "Padding"
name_of faults.BadBool = codes "BadBool"
name_of faults.BadText = codes "BadText"
name_of faults.BadSignature = codes "BadSignature"
name_of faults.ArrayLength = codes "ArrayLength"
name_of faults.Depth = codes "Depth"
name_of faults.Short = codes "Short"
name_of faults.Trailing = codes "Trailing"
name_of faults.UnixFds = codes "UnixFds"
name_of faults.Reserved = codes "Reserved"
