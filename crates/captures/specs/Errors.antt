-- The names of the faults of captures (own).
use Rattle.std.specs.Prelude.{ℕ, List, ◌++◌, codes, decimal}
use Rattle.captures.specs.declared.error.CaptureError.{CaptureError}
use Rattle.captures.specs.declared.error.CaptureError.TheVariants as faults

abbrev pub name_of : CaptureError → List ℕ
name_of faults.Magic = codes "Magic"
name_of faults.Version = codes "Version"
name_of (faults.LinkType n) = codes "LinkType"
name_of faults.ByteOrder = codes "ByteOrder"
name_of faults.BlockLength = codes "BlockLength"
name_of faults.RecordLength = codes "RecordLength"
name_of faults.OptionLength = codes "OptionLength"
name_of faults.Resolution = codes "Resolution"
name_of faults.Interface = codes "Interface"
name_of faults.Interfaces = codes "Interfaces"
name_of faults.Short = codes "Short"

-- a name, and the number of the link type where that is the fault
abbrev pub text_of : CaptureError → List ℕ
text_of (faults.LinkType n) = codes "LinkType " ++ decimal n
text_of fault = name_of fault
