-- Messages stamped with their sender (D-Bus Specification, "Header Fields": SENDER).
use Rattle.std.specs.Prelude.{ℕ, Bool, not, ◌&&◌, ◌==◌, List, [], ◌∷◌, ◌++◌, filter, is_some, Result, Ok, Err, Vec}
use Rattle.signature.specs.DataType.{basic}
use Rattle.message_value.specs.Value.{text}
use Rattle.message_view.specs.Header.{code_of}
use Rattle.message_view.specs.Message.{Field, Message}
use Rattle.message_view.specs.Valid.{Valid}
use Rattle.message_build.specs.declared.stamping.StampError.{StampError}
use Rattle.message_build.specs.declared.stamping.StampError.TheVariants.{TooLarge, NoMemory}
use Rattle.message_build.specs.Building.{IsTooLarge}

-- the field SENDER
abbrev pub sender_field : List ℕ → Field
sender_field sender = record { code = 7; type = basic 115; value = text sender }

-- a field that has a meaning, and isn't SENDER
abbrev pub is_kept : Field → Bool
is_kept field = is_some (code_of field.code) && not (field.code == 7)

-- The message with the known fields in their order without SENDER, then SENDER; all else is the same.
abbrev pub with_sender : Message → List ℕ → Message
with_sender m sender = record {
  order = m.order;
  kind = m.kind;
  flags = m.flags;
  serial = m.serial;
  fields = filter is_kept m.fields ++ sender_field sender ∷ [];
  types = m.types;
  arguments = m.arguments;
}

-- Valid bytes of the stamped message; or its spelling is above the limits; or memory ran out.
abbrev pub Stamps : Message → List ℕ → Result (List ℕ) StampError → Type 0
Stamps m sender (Ok bytes) = Valid bytes (with_sender m sender)
Stamps m sender (Err TooLarge) = IsTooLarge (with_sender m sender)
Stamps m sender (Err NoMemory) = Unit {0}

-- the bytes of a result
abbrev pub stamp_listed : {A : Type 0} → Result (Vec ℕ A) StampError → Result (List ℕ) StampError
stamp_listed (Ok v) = Ok v.items
stamp_listed (Err e) = Err e
