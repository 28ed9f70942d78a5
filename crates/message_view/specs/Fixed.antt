-- The fixed part of a header: its first 16 bytes (D-Bus Specification, "Message Format").
use Rattle.std.specs.Prelude.{ℕ, ◌+◌, Bool, not, List, [], ◌∷◌, length, take, drop, slice_index, Option, Some, None, is_none, Result, Ok, Err, nat_lt, nat_le, ◌==◌, ◌&&◌, if◌then◌else◌}
use Rattle.message_value.specs.declared.order.Order.{Order}
use Rattle.message_value.specs.declared.order.Order.TheVariants.{Little, Big}
use Rattle.message_value.specs.declared.error.MsgError.{MsgError}
use Rattle.message_value.specs.declared.error.MsgError.TheVariants as faults
use Rattle.message_value.specs.Order.{order_of, word_of}
use Rattle.message_view.specs.Header.{kind_of}
use Rattle.message_value.specs.Spelling.{padding}
use Rattle.message_value.specs.Fits.{max_array_len}
use Rattle.message_view.specs.Spelling.{fixed_len}
use Rattle.message_view.specs.Valid.{max_message_len}

-- the order that the first byte names; of bytes without one nothing else is looked at
abbrev pub order_in : List ℕ → Order
order_in bytes = if slice_index bytes 0 == 108 then Little else Big

-- the number at a place
abbrev pub word_at : ℕ → List ℕ → ℕ
word_at place bytes = word_of (order_in bytes) (take 4 (drop place bytes))

abbrev pub body_len : List ℕ → ℕ
body_len bytes = word_at 4 bytes

abbrev pub serial_in : List ℕ → ℕ
serial_in bytes = word_at 8 bytes

abbrev pub fields_len : List ℕ → ℕ
fields_len bytes = word_at 12 bytes

-- the length of the whole message
abbrev pub whole_len : List ℕ → ℕ
whole_len bytes = fixed_len + fields_len bytes + padding 8 (fields_len bytes) + body_len bytes

-- A check: how many bytes it looks at, whether it fails, and what it then names.
pub record Check : Type 0 where
  pub need : ℕ
  pub fails : Bool
  pub fault : MsgError

-- the checks in their order
abbrev pub checks : List ℕ → List Check
checks bytes =
    record { need = 1; fails = is_none (order_of (slice_index bytes 0)); fault = faults.Order }
    ∷ record { need = 2; fails = is_none (kind_of (slice_index bytes 1)); fault = faults.Kind }
    ∷ record { need = 4; fails = not (slice_index bytes 3 == 1); fault = faults.Version }
    ∷ record { need = 12; fails = serial_in bytes == 0; fault = faults.Serial }
    ∷ record { need = 16; fails = nat_lt max_array_len (fields_len bytes); fault = faults.ArrayLength }
    ∷ record { need = 16; fails = nat_lt max_message_len (whole_len bytes); fault = faults.TooLarge }
    ∷ []

-- the first check that has its bytes and fails
abbrev pub first_failing : ℕ → List Check → Option MsgError
first_failing have [] = None
first_failing have (check ∷ later) = if nat_le check.need have && check.fails then Some check.fault else first_failing have later

-- the whole length, if there are enough bytes to say
abbrev pub len_said : List ℕ → Option ℕ
len_said bytes = if nat_lt (length bytes) fixed_len then None else Some (whole_len bytes)

abbrev pub or_len : Option MsgError → List ℕ → Result (Option ℕ) MsgError
or_len (Some fault) bytes = Err fault
or_len None bytes = Ok (len_said bytes)

-- the fault of the fixed part, else the whole length
abbrev pub framing : List ℕ → Result (Option ℕ) MsgError
framing bytes = or_len (first_failing (length bytes) (checks bytes)) bytes
