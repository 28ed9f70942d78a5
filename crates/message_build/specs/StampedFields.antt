-- Inner: the fields of a message, kept one after the other for its stamp.
use Rattle.std.specs.Prelude.{◌≡◌, ◌+◌, ◌<◌, ◌≤◌, ℕ, Bool, not, ◌&&◌, List, [], ◌∷◌, ◌++◌, length, drop, is_some, ◌==◌, Option, Some, None, Result, Ok, Err, filter, if◌then◌else◌}
use Rattle.message_value.specs.declared.order.Order.{Order}
use Rattle.message_value.specs.declared.error.MsgError.{MsgError}
use Rattle.message_value.specs.Fits.{max_array_len}
use Rattle.message_value.specs.Spelling.{padding, zeros}
use Rattle.message_value.specs.Reading.{◌>>=◌, At, aligned_at, byte_at, signature_at, value_at}
use Rattle.message_view.specs.Header.{code_of}
use Rattle.message_view.specs.Message.{Field}
use Rattle.message_view.specs.Spelling.{field_alignment, fixed_len, field_bytes, fields_bytes}
use Rattle.message_view.specs.Valid.{levels_in_field, IsField}
use Rattle.message_build.specs.declared.kept_fields.Begun.{Begun}
use Rattle.message_build.specs.declared.kept_fields.Found.{Found}
use Rattle.message_build.specs.declared.stamping.StampError.{StampError}
use Rattle.message_build.specs.declared.stamping.StampError.TheVariants.{TooLarge, NoMemory}
use Rattle.message_build.specs.declared.header.Header.{Header}
use Rattle.message_build.specs.Stamped.{is_kept, sender_field}
use Rattle.message_build.specs.MessageBytes.{fixed_bytes}

-- a code that has a meaning, and isn't SENDER's
abbrev pub is_kept_code : ℕ → Bool
is_kept_code code = is_some (code_of code) && not (code == 7)

-- the code of a field and where it stands, after the zeros before it
unfoldable pub begun_at : Order → At → Result (Begun × At) MsgError
begun_at order at = do
  start ← aligned_at field_alignment at
  code ← byte_at start
  type ← signature_at code.1
  value ← value_at levels_in_field order type.0 type.1
  Ok (record { code = code.0; place = start.place }, value.1)

-- the bytes of a field without the zeros before it
abbrev pub bare_field : Order → Field → List ℕ
bare_field order field = field_bytes order 0 field

-- a field was found
abbrev pub IsFound : Option Found → Order → Field → Type 0
IsFound (Some found) order field = (found.code ≡ field.code) × (found.bytes.now ≡ bare_field order field)
IsFound None order field = ⊥

-- a field lies at a place of an array, and these bytes follow it
pub record LiesAt (order : Order) (array : List ℕ) (at : At) (field : Field) (more : List ℕ) : Type 0 where
  pub is : IsField order at.place field
  pub rest : at.rest ≡ field_bytes order at.place field ++ more
  pub within : drop at.place array ≡ at.rest

-- the place after a field
pub record IsAfter (order : Order) (at : At) (field : Field) (more : List ℕ) (tail : At) : Type 0 where
  pub place : tail.place ≡ at.place + length (field_bytes order at.place field)
  pub rest : tail.rest ≡ more

-- what is copied of a field to a place: it with the zeros before it, or nothing
abbrev pub kept_bytes : ℕ → Found → List ℕ
kept_bytes place found = if is_kept_code found.code then zeros (padding field_alignment place) ++ found.bytes.now else []

-- the bytes of the fields of a stamped message
abbrev pub stamped_fields : Order → List Field → List ℕ → List ℕ
stamped_fields order fields sender = fields_bytes order fixed_len (filter is_kept fields ++ sender_field sender ∷ [])

-- the header of a stamped message with these fields; or that they are too long
abbrev pub HeadsStamped : Result (List ℕ) StampError → Order → Header → ℕ → List ℕ → Type 0
HeadsStamped (Ok bytes) order h body_len fields =
    (length fields ≤ max_array_len) × (bytes ≡ fixed_bytes order h (length fields) body_len ++ (fields ++ zeros (padding 8 (length fields))))
HeadsStamped (Err TooLarge) order h body_len fields = max_array_len < length fields
HeadsStamped (Err NoMemory) order h body_len fields = Unit {0}
