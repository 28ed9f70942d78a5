-- The words that begin a test, and those that stand after `has` and `is` (own).
use Rattle.std.specs.Prelude.{ℕ, List, [], ◌∷◌, drop, length, Option, Some, None, option_map, Result, Ok, Err, codes, ◌==◌, if◌then◌else◌}
use Rattle.std.specs.Str.{bytes_eq}
use Rattle.match_key.specs.declared.arg_number.ArgNumber.{ArgNumber}
use Rattle.match_key.specs.declared.kind_name.KindName.TheVariants as kinds
use Rattle.match_key.specs.Key.{digits_of, after_digits, arg_number, is_of_arg}
use Rattle.match_key.specs.Rows.{row_of}
use Rattle.filter.specs.declared.error.Fault.{Fault}
use Rattle.filter.specs.declared.error.Fault.TheVariants as faults
use Rattle.filter.specs.declared.test.Equality.TheVariants as equalities
use Rattle.filter.specs.declared.test.Flag.{Flag}
use Rattle.filter.specs.declared.test.Flag.TheVariants.{NoReplyExpected, NoAutoStart, AllowInteractiveAuthorization}
use Rattle.filter.specs.declared.test.Field.{Field}
use Rattle.filter.specs.declared.test.Field.TheVariants as fields
use Rattle.filter.specs.declared.test.TextField.{TextField}
use Rattle.filter.specs.declared.test.TextField.TheVariants as text_fields
use Rattle.filter.specs.declared.test.TextType.TheVariants as text_types
use Rattle.filter.specs.declared.test.TextSource.TheVariants as texts
use Rattle.filter.specs.declared.test.Scope.TheVariants as scopes
use Rattle.filter.specs.declared.test.NumberSource.{NumberSource}
use Rattle.filter.specs.declared.test.NumberSource.TheVariants as numbers
use Rattle.filter.specs.declared.test.ArgType.{ArgType}
use Rattle.filter.specs.declared.test.ArgType.TheVariants as types
use Rattle.filter.specs.declared.test.Test.{Test}
use Rattle.filter.specs.declared.test.Test.TheVariants as tests
use Rattle.filter.specs.declared.opening.Operand.{Operand}
use Rattle.filter.specs.declared.opening.Operand.TheVariants as operands
use Rattle.filter.specs.declared.opening.Opening.{Opening}
use Rattle.filter.specs.declared.opening.Opening.TheVariants.{Whole, Has, Begins}
use Rattle.filter.specs.declared.arg_word.ArgSuffix.{ArgSuffix}
use Rattle.filter.specs.declared.arg_word.ArgSuffix.TheVariants as suffixes

abbrev pub or_else : {A : Type 0} → Option A → Option A → Option A
or_else (Some x) other = Some x
or_else None other = other

-- ---- the tests of one word

-- the words for kinds
abbrev pub kind_tests : List (List ℕ × Test)
kind_tests =
    (codes "call", tests.Kind equalities.Equal kinds.MethodCall)
    ∷ (codes "reply", tests.Kind equalities.Equal kinds.MethodReturn)
    ∷ (codes "error", tests.Kind equalities.Equal kinds.Error)
    ∷ (codes "signal", tests.Kind equalities.Equal kinds.Signal)
    ∷ (codes "broadcast", tests.Broadcast)
    ∷ []

abbrev pub flag_words : List (List ℕ × Flag)
flag_words =
    (codes "no_reply_expected", NoReplyExpected)
    ∷ (codes "no_auto_start", NoAutoStart)
    ∷ (codes "allow_interactive_authorization", AllowInteractiveAuthorization)
    ∷ []

abbrev pub whole_test : List ℕ → Option Test
whole_test word = or_else (row_of kind_tests word) (option_map tests.Flag (row_of flag_words word))

-- ---- fields

abbrev pub text_fields_by_word : List (List ℕ × TextField)
text_fields_by_word =
    (codes "path", text_fields.Path)
    ∷ (codes "interface", text_fields.Interface)
    ∷ (codes "member", text_fields.Member)
    ∷ (codes "error_name", text_fields.ErrorName)
    ∷ (codes "destination", text_fields.Destination)
    ∷ (codes "sender", text_fields.Sender)
    ∷ []

abbrev pub number_words : List (List ℕ × NumberSource)
number_words =
    (codes "serial", numbers.Serial)
    ∷ (codes "reply_serial", numbers.ReplySerial)
    ∷ (codes "flags", numbers.Flags)
    ∷ (codes "body_length", numbers.BodyLength)
    ∷ (codes "args", numbers.Args)
    ∷ (codes "length", numbers.Length)
    ∷ []

-- the field that a text field is
abbrev pub field_of_text : TextField → Field
field_of_text text_fields.Path = fields.Path
field_of_text text_fields.Interface = fields.Interface
field_of_text text_fields.Member = fields.Member
field_of_text text_fields.ErrorName = fields.ErrorName
field_of_text text_fields.Destination = fields.Destination
field_of_text text_fields.Sender = fields.Sender

-- the fields after `has`
abbrev pub field_named : List ℕ → Option Field
field_named word =
    or_else (option_map field_of_text (row_of text_fields_by_word word)) (if bytes_eq word (codes "reply_serial") then Some fields.ReplySerial else None)

-- ---- arguments

-- what may follow the number of an argument
abbrev pub arg_suffixes : List (List ℕ × ArgSuffix)
arg_suffixes =
    ([], suffixes.Bare)
    ∷ (codes "path", suffixes.Path)
    ∷ (codes "namespace", suffixes.Namespace)
    ∷ (codes "object", suffixes.Object)
    ∷ (codes "signature", suffixes.Signature)
    ∷ []

abbrev pub with_number : Option ArgSuffix → Option ArgNumber → Result (ArgNumber × ArgSuffix) Fault
with_number None number = Err faults.UnknownWord
with_number (Some suffix) None = Err faults.ArgNumber
with_number (Some suffix) (Some number) = Ok (number, suffix)

abbrev pub arg_parts : List ℕ → List ℕ → Result (ArgNumber × ArgSuffix) Fault
arg_parts digits suffix =
    if length digits == 0 then Err faults.UnknownWord else with_number (row_of arg_suffixes suffix) (arg_number digits)

-- a word of `arg`, the number of an argument and a suffix
abbrev pub arg_word : List ℕ → Result (ArgNumber × ArgSuffix) Fault
arg_word word =
    if is_of_arg word then arg_parts (digits_of (drop 3 word)) (after_digits (drop 3 word)) else Err faults.UnknownWord

-- ---- what begins a test

abbrev pub operand_of_arg : ArgNumber → ArgSuffix → Operand
operand_of_arg n suffixes.Bare = operands.Arg n
operand_of_arg n suffixes.Path = operands.Scope (scopes.ArgPath n)
operand_of_arg n suffixes.Namespace = operands.Scope (scopes.ArgNamespace n)
operand_of_arg n suffixes.Object = operands.Text (texts.Arg n text_types.ObjectPath)
operand_of_arg n suffixes.Signature = operands.Text (texts.Arg n text_types.Signature)

-- the operands that are one word
abbrev pub operand_words : List (List ℕ × Operand)
operand_words = (codes "type", operands.Kind) ∷ (codes "path_namespace", operands.Scope scopes.PathNamespace) ∷ []

abbrev pub operand_named : List ℕ → Option Operand
operand_named word =
    or_else (row_of operand_words word)
    (or_else (option_map (λ field. operands.Text (texts.Field field)) (row_of text_fields_by_word word))
    (option_map operands.Number (row_of number_words word)))

abbrev pub begun_by_arg : Result (ArgNumber × ArgSuffix) Fault → Result Opening Fault
begun_by_arg (Err fault) = Err fault
begun_by_arg (Ok found) = Ok (Begins (operand_of_arg found.0 found.1))

abbrev pub opening_or : Option Opening → Result Opening Fault → Result Opening Fault
opening_or (Some opening) other = Ok opening
opening_or None other = other

-- what a test's first word begins
abbrev pub opening_of : List ℕ → Result Opening Fault
opening_of word =
    opening_or
    (or_else (option_map Whole (whole_test word))
    (or_else (if bytes_eq word (codes "has") then Some Has else None) (option_map Begins (operand_named word))))
    (begun_by_arg (arg_word word))

-- ---- after `has` and `is`

abbrev pub has_arg : Result (ArgNumber × ArgSuffix) Fault → Result Test Fault
has_arg (Ok (n, suffixes.Bare)) = Ok (tests.HasArg n)
has_arg (Err faults.ArgNumber) = Err faults.ArgNumber
has_arg _ = Err faults.BadField

abbrev pub has_field : Option Field → Result Test Fault → Result Test Fault
has_field (Some field) other = Ok (tests.HasField field)
has_field None other = other

-- the test of a word after `has`
abbrev pub has_test : List ℕ → Result Test Fault
has_test word = has_field (field_named word) (has_arg (arg_word word))

-- what a byte stands for after `is`: as in a signature, and `r` for a struct
abbrev pub type_of_code : ℕ → Option ArgType
type_of_code c =
    if c == 121 then Some types.Byte
    else if c == 98 then Some types.Boolean
    else if c == 110 then Some types.Int16
    else if c == 113 then Some types.Uint16
    else if c == 105 then Some types.Int32
    else if c == 117 then Some types.Uint32
    else if c == 120 then Some types.Int64
    else if c == 116 then Some types.Uint64
    else if c == 100 then Some types.Double
    else if c == 115 then Some types.String
    else if c == 111 then Some types.ObjectPath
    else if c == 103 then Some types.Signature
    else if c == 104 then Some types.UnixFd
    else if c == 97 then Some types.Array
    else if c == 118 then Some types.Variant
    else if c == 114 then Some types.Struct
    else None

abbrev pub type_named : List ℕ → Option ArgType
type_named (c ∷ []) = type_of_code c
type_named _ = None
