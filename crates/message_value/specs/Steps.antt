-- Inner: what single steps of the readers answer.
use Rattle.std.specs.Prelude.{◌≡◌, ℕ, ◌%◌, Bool, true, false, List, Result, Ok, Err}
use Rattle.message_value.specs.declared.error.MsgError.{MsgError}
use Rattle.message_value.specs.declared.error.MsgError.TheVariants as faults
use Rattle.message_value.specs.Reading.{At}

-- What a call returned is what reading gives, seen by a view of each.
abbrev pub Gives : {X Y Z : Type 0} → (X → Z) → (Y → Z) → Result X MsgError → Result Y MsgError → Type 0
Gives view_of read_as (Ok x) (Ok y) = view_of x ≡ read_as y
Gives view_of read_as (Err fault) (Err other) = fault ≡ other
Gives view_of read_as (Ok x) (Err other) = ⊥
Gives view_of read_as (Err fault) (Ok y) = ⊥

-- What a call returned is whether reading all items is Ok, and else its fault.
abbrev pub ChecksAll : {X Y : Type 0} → Result X MsgError → Result (List Y) MsgError → Type 0
ChecksAll (Ok x) read = (found : _) × (read ≡ Ok found)
ChecksAll (Err fault) read = read ≡ Err fault

-- an array's length is a multiple of this one, else it is a fault
abbrev pub Divides : {X : Type 0} → Bool → Result X MsgError → Type 0
Divides multiple (Ok x) = multiple ≡ true
Divides multiple (Err fault) = (multiple ≡ false) × (fault ≡ faults.ArrayLength)

-- reading gives a place
abbrev pub IsGone : Result At MsgError → Type 0
IsGone read = (tail : At) × (read ≡ Ok tail)

-- a place is the one after what reading gives, where it gives something
abbrev pub Reaches : {Y : Type 0} → At → Result (Y × At) MsgError → Type 0
Reaches tail read = (found : _) → read ≡ Ok found → tail ≡ found.1

-- the alignment divides the place
abbrev pub IsAligned : ℕ → ℕ → Type 0
IsAligned alignment place = place % alignment ≡ 0
