-- What finishing answers (own).
use Rattle.std.specs.Prelude.{◌≡◌, ◌⊎◌, ◌<◌, ◌^◌, ℕ, true, List, length, Some, Result, Ok, Err, Vec}
use Rattle.signature.specs.DataType.{SigText}
use Rattle.message_value.specs.Fits.{max_array_len, max_levels, MembersFit}
use Rattle.message_view.specs.Header.{kind_byte, kind_of, has_required}
use Rattle.message_view.specs.Message.{Message, signature_in}
use Rattle.message_view.specs.Spelling.{fixed_len, body_place, header_bytes, body_bytes, message_bytes}
use Rattle.message_view.specs.Valid.{AreFields, Valid, max_message_len}
use Rattle.message_build.specs.declared.error.BuildError.{BuildError}
use Rattle.message_build.specs.declared.error.BuildError.TheVariants.{Invalid, TooLarge, NoMemory}
use Rattle.message_build.specs.Asked.{Asked, Asks}

-- The message's spelling is above the limits: its array of fields, or all of it, is too long.
abbrev pub IsTooLarge : Message → Type 0
IsTooLarge m = (max_array_len < length (header_bytes m)) ⊎ (max_message_len < length (message_bytes m))

-- A message that is valid but for its size: its parts are those of a valid message, and its body's length has four
-- bytes, but its array of fields and all of it may be longer than a message may be.
pub record IsValidButForSize (m : Message) : Type 0 where
  pub kind : kind_of (kind_byte m.kind) ≡ Some m.kind
  pub kind_fits : kind_byte m.kind < 256
  pub flags : m.flags < 256
  pub serial : 0 < m.serial
  pub serial_fits : m.serial < 2 ^ 32
  pub fields : AreFields m.order fixed_len m.fields
  pub required : has_required m.kind m.fields ≡ true
  pub types : SigText m.types (signature_in m.fields)
  pub arguments : MembersFit m.order max_levels (body_place (length (header_bytes m))) m.types m.arguments
  pub counted : length (body_bytes m) < 2 ^ 32

-- the bytes of a valid message that was asked for
abbrev pub AreAsked : Asked → List ℕ → Type 0
AreAsked a bytes = (m : Message) × Asks a m × Valid bytes m

-- A message was asked for that is valid but for its size, and its spelling is above the limits.
abbrev pub AsksTooMuch : Asked → Type 0
AsksTooMuch a = (m : Message) × Asks a m × IsValidButForSize m × IsTooLarge m

-- No message was asked for, or none that is valid but for its size.
abbrev pub AsksNone : Asked → Type 0
AsksNone a = (m : Message) → Asks a m → IsValidButForSize m → ⊥

-- The bytes of the message; `Invalid` where none was asked for that would be valid at any size; `TooLarge` where one
-- was, and its spelling is above the limits. Memory is only wanted for a valid message.
abbrev pub Finishes : Asked → Result (List ℕ) BuildError → Type 0
Finishes a (Ok bytes) = AreAsked a bytes
Finishes a (Err Invalid) = AsksNone a
Finishes a (Err TooLarge) = AsksTooMuch a
Finishes a (Err NoMemory) = (bytes : List ℕ) × AreAsked a bytes

-- the bytes of a result
abbrev pub listed_bytes : {A : Type 0} → Result (Vec ℕ A) BuildError → Result (List ℕ) BuildError
listed_bytes (Ok v) = Ok v.items
listed_bytes (Err e) = Err e
