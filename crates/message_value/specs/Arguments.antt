-- The arguments of a message, as they lie in its bytes (own).
use Rattle.std.specs.Prelude.{ℕ, ◌+◌, List, [], ◌∷◌, length, slice_index, Option, Some, None, ◌==◌, if◌then◌else◌}
use Rattle.signature.specs.DataType.{DataType, DataTypes, basic, one_more, spelling}
use Rattle.signature.specs.Alignment.{alignment_of}
use Rattle.message_value.specs.declared.order.Order.{Order}
use Rattle.message_value.specs.Value.{Value, Values, text, one_value}
use Rattle.message_value.specs.Spelling.{align_up, bare_bytes, value_bytes}

-- The first byte of an argument's type, where it lies, counted from the message's start, and how many bytes
-- it has. Of a text these are the text's, without its length and its zero byte.
pub record Argument : Type 0 where
  pub code : ℕ
  pub place : ℕ
  pub len : ℕ
  pub text : Option (List ℕ)

-- how many bytes a text's length has
abbrev pub text_start : ℕ → ℕ
text_start code = if code == 103 then 1 else 4

-- a value at a place that its type's alignment divides
abbrev pub argument_of : Order → ℕ → DataType → Value → Argument
argument_of order place (basic code) (text bytes) =
    record { code = code; place = place + text_start code; len = length bytes; text = Some bytes }
argument_of order place type value =
    record { code = slice_index (spelling type) 0; place = place; len = length (bare_bytes order place type value); text = None }

-- one value after the other
abbrev pub arguments_from : Order → ℕ → DataTypes → Values → List Argument
arguments_from order place (one_more t ts) (one_value v vs) =
    argument_of order (align_up (alignment_of t) place) t v ∷ arguments_from order (place + length (value_bytes order place t v)) ts vs
arguments_from order place _ _ = []
