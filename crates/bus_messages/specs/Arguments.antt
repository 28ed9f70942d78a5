-- The values of a call's arguments in the bytes of its message (D-Bus Specification, "Marshaling").
use Rattle.std.specs.Prelude.{ℕ, ◌+◌, ◌-◌, ◌/◌, List, [], ◌∷◌, length, map, take, drop, slice_index, nat_le, ◌&&◌, ◌==◌, Option, Some, None, option_map, Result, Ok, Err, if◌then◌else◌}
use Rattle.std.specs.Int.{w16}
use Rattle.std.specs.Simd.{first_chunks}
use Rattle.bpf_code.specs.declared.instruction.Ins.{Ins}
use Rattle.signature.specs.DataType.{basic}
use Rattle.summary.specs.declared.edition.Edition.{Edition}
use Rattle.summary.specs.declared.edition.Edition.TheVariants.{One, Two}
use Rattle.message_value.specs.declared.order.Order.{Order}
use Rattle.message_value.specs.Arguments.{Argument}
use Rattle.message_value.specs.declared.error.MsgError.{MsgError}
use Rattle.message_value.specs.Order.{number_of, word_of}
use Rattle.message_value.specs.Reading.{At, inside, each_at, value_at}
use Rattle.message_value.specs.Spelling.{padding}
use Rattle.message_value.specs.Value.{Value, text}
use Rattle.bus_messages.specs.declared.call.CallError.{CallError}
use Rattle.bus_messages.specs.declared.call.CallError.TheVariants.{InvalidArgs, BadEdition}

-- a message's bytes, their order, and the arguments that they hold
pub record Given : Type 0 where
  pub message : List ℕ
  pub order : Order
  pub left : List Argument

-- after the first argument
abbrev pub later : Given → Given
later args_left = record args_left { left = drop 1 args_left.left }

-- the first argument, if it is a text
abbrev pub text_of : List Argument → Option (List ℕ)
text_of [] = None
text_of (argument ∷ more) = argument.text

abbrev pub first_text : Given → Option (List ℕ)
first_text args_left = text_of args_left.left

-- the number of the first four bytes
abbrev pub number_from : Order → List ℕ → Option ℕ
number_from order (a ∷ b ∷ c ∷ d ∷ rest) = Some (word_of order (a ∷ b ∷ c ∷ d ∷ []))
number_from order _ = None

-- the number of four bytes where the first argument lies
abbrev pub number_at : List ℕ → Order → List Argument → Option ℕ
number_at message order [] = None
number_at message order (argument ∷ more) = number_from order (drop argument.place message)

abbrev pub first_number : Given → Option ℕ
first_number args_left = number_at args_left.message args_left.order args_left.left

-- the struct `(qyyu)` of an instruction: code, jt, jf, k
abbrev pub instruction_of : Order → List ℕ → Ins
instruction_of order bytes = record {
  code = number_of order w16 (take 2 bytes);
  jt = slice_index bytes 2;
  jf = slice_index bytes 3;
  k = word_of order (drop 4 bytes);
}

abbrev pub instruction_len : ℕ
instruction_len = 8

-- one instruction after the other
abbrev pub instructions_of : Order → List ℕ → List Ins
instructions_of order bytes = map (instruction_of order) (first_chunks instruction_len (length bytes / instruction_len) bytes)

-- the bytes from one place to another
abbrev pub between : ℕ → ℕ → List ℕ → Option (List ℕ)
between start end bytes = if nat_le start end && nat_le end (length bytes) then Some (take (end - start) (drop start bytes)) else None

-- where the elements of an array of structs begin: after the four bytes of its length and its padding
abbrev pub elements_start : ℕ → ℕ
elements_start place = place + 4 + padding instruction_len (place + 4)

-- the elements of an array of structs
abbrev pub elements_of : List ℕ → Argument → Option (List ℕ)
elements_of message argument = between (elements_start argument.place) (argument.place + argument.len) message

-- the program that the first argument is
abbrev pub program_at : List ℕ → Order → List Argument → Option (List Ins)
program_at message order [] = None
program_at message order (argument ∷ more) = option_map (instructions_of order) (elements_of message argument)

abbrev pub first_program : Given → Option (List Ins)
first_program args_left = program_at args_left.message args_left.order args_left.left

-- a text with the zeros before it
abbrev pub text_element : Order → At → Result (Value × At) MsgError
text_element order at = value_at 0 order (basic 115) at

-- The elements of an array of texts. They begin at a multiple of four, so that their places may be counted from 0.
abbrev pub text_elements : Order → List ℕ → Result (List Value) MsgError
text_elements order bytes = each_at (text_element order) (length bytes) (inside 0 bytes)

-- the bytes of a text
abbrev pub bytes_in : Value → List ℕ
bytes_in (text bytes) = bytes
bytes_in _ = []

-- one text after the other
abbrev pub texts_of : Result (List Value) MsgError → Option (List (List ℕ))
texts_of (Ok values) = Some (map bytes_in values)
texts_of (Err fault) = None

-- the bytes of the elements of an array of texts: after the four bytes of its length
abbrev pub texts_bytes : List ℕ → Argument → Option (List ℕ)
texts_bytes message argument = between (argument.place + 4) (argument.place + argument.len) message

abbrev pub texts_within : Order → Option (List ℕ) → Option (List (List ℕ))
texts_within order None = None
texts_within order (Some bytes) = texts_of (text_elements order bytes)

-- the texts of the array that the first argument is
abbrev pub texts_at : List ℕ → Order → List Argument → Option (List (List ℕ))
texts_at message order [] = None
texts_at message order (argument ∷ more) = texts_within order (texts_bytes message argument)

abbrev pub first_texts : Given → Option (List (List ℕ))
first_texts args_left = texts_at args_left.message args_left.order args_left.left

-- the edition of a number
abbrev pub edition_of : Option ℕ → Result Edition CallError
edition_of None = Err InvalidArgs
edition_of (Some n) = if n == 1 then Ok One else if n == 2 then Ok Two else Err BadEdition
