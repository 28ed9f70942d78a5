-- What readers answer, as what reading gives (own).
use Rattle.std.specs.Prelude.{◌≡◌, ℕ, ◌≤◌, List, length, Result, Ok, Err}
use Rattle.signature.specs.DataType.{DataType, TypeText}
use Rattle.message_value.specs.declared.error.MsgError.{MsgError}
use Rattle.message_value.specs.Reading.{At}

-- What a call returned, and where it then stands, is what reading gives.
abbrev pub Reads : {X Y : Type 0} → (X → Y) → Result X MsgError → At → Result (Y × At) MsgError → Type 0
Reads view (Ok x) tail read = read ≡ Ok (view x, tail)
Reads view (Err fault) tail read = read ≡ Err fault

-- the same where only the place changes
abbrev pub Skips : {X : Type 0} → Result X MsgError → At → Result At MsgError → Type 0
Skips (Ok x) tail read = read ≡ Ok tail
Skips (Err fault) tail read = read ≡ Err fault

-- the same where what was read isn't kept
abbrev pub Checks : {X Y : Type 0} → Result X MsgError → At → Result (Y × At) MsgError → Type 0
Checks (Ok x) tail read = (y : _) × (read ≡ Ok (y, tail))
Checks (Err fault) tail read = read ≡ Err fault

-- the same of a type's text
abbrev pub ReadsType : Result (List ℕ) MsgError → At → Result (DataType × At) MsgError → Type 0
ReadsType (Ok text) tail read = (type : DataType) × TypeText type text × (length text ≤ 255) × (read ≡ Ok (type, tail))
ReadsType (Err fault) tail read = read ≡ Err fault
