-- Where a filter holds of a message (own). What isn't there, or is of another type, fails each test of it.
use Rattle.std.specs.Prelude.{◌≡◌, ◌⊎◌, ℕ, zero, suc, ◌-◌, ◌*◌, ◌^◌, ◌<◌, ◌||◌, Bool, true, false, not, List, ◌++◌, length, min, Option, Some, None, is_some, option_map, IsSomeAnd, MatchBool, slice_get, ◌==◌, nat_lt, bit_and, if◌then◌else◌}
use Rattle.signature.specs.DataType.{DataType, DataTypes, basic, one_more}
use Rattle.message_value.specs.Spelling.{number_len}
use Rattle.message_value.specs.Value.{Value, Values, number, one_value}
use Rattle.message_view.specs.Message.{Message, path_of, interface_of, member_of, error_name_of, reply_serial_of, destination_of, sender_of}
use Rattle.message_view.specs.Spelling.{body_bytes, arguments_of, message_bytes}
use Rattle.match_key.specs.declared.arg_number.ArgNumber.{ArgNumber}
use Rattle.match_key.specs.ArgNumber.{number_of_arg}
use Rattle.match_key.specs.Kinds.{kind_meant}
use Rattle.match_key.specs.declared.relation.Relation.TheVariants.{NameNamespace, NestedPath}
use Rattle.match_rule.specs.Arguments.{text_in}
use Rattle.match_rule.specs.Holds.{Begins, InPathNamespace, InNamespace, AreNested, compared_text}
use Rattle.filter.specs.declared.integer.Integer.{Integer}
use Rattle.filter.specs.declared.integer.Integer.TheVariants.{Natural, Negative}
use Rattle.filter.specs.declared.test.ArgType.{ArgType}
use Rattle.filter.specs.declared.test.ArgType.TheVariants as types
use Rattle.filter.specs.declared.test.Equality.{Equality}
use Rattle.filter.specs.declared.test.Equality.TheVariants as equalities
use Rattle.filter.specs.declared.test.Field.{Field}
use Rattle.filter.specs.declared.test.Field.TheVariants as fields
use Rattle.filter.specs.declared.test.Flag.{Flag}
use Rattle.filter.specs.declared.test.Flag.TheVariants.{NoReplyExpected, NoAutoStart, AllowInteractiveAuthorization}
use Rattle.filter.specs.declared.test.NumberRelation.{NumberRelation}
use Rattle.filter.specs.declared.test.NumberRelation.TheVariants as numbers
use Rattle.filter.specs.declared.test.NumberSource.{NumberSource}
use Rattle.filter.specs.declared.test.NumberSource.TheVariants as sources
use Rattle.filter.specs.declared.test.Scope.{Scope}
use Rattle.filter.specs.declared.test.Scope.TheVariants.{PathNamespace, ArgNamespace, ArgPath}
use Rattle.filter.specs.declared.test.Test.{Test}
use Rattle.filter.specs.declared.test.Test.TheVariants as tests
use Rattle.filter.specs.declared.test.TextField.{TextField}
use Rattle.filter.specs.declared.test.TextField.TheVariants.{Path, Interface, Member, ErrorName, Destination, Sender}
use Rattle.filter.specs.declared.test.TextRelation.{TextRelation}
use Rattle.filter.specs.declared.test.TextRelation.TheVariants as relations
use Rattle.filter.specs.declared.test.TextSource.{TextSource}
use Rattle.filter.specs.declared.test.TextSource.TheVariants as texts
use Rattle.filter.specs.declared.test.TextType.{TextType}
use Rattle.filter.specs.declared.test.TextType.TheVariants as text_types
use Rattle.filter.specs.FilterTree.{FilterTree, FilterTrees, test, all, any, negation, no_filters, one_more as one_filter}
use Rattle.filter.specs.Weights.{asks_owner}

-- it is so, or it isn't
abbrev pub Says : Equality → Type 0 → Type 0
Says equalities.Equal P = P
Says equalities.Unequal P = P → ⊥

-- ---- fields and flags

abbrev pub field_text : TextField → Message → Option (List ℕ)
field_text Path m = path_of m
field_text Interface m = interface_of m
field_text Member m = member_of m
field_text ErrorName m = error_name_of m
field_text Destination m = destination_of m
field_text Sender m = sender_of m

abbrev pub has_field : Field → Message → Bool
has_field fields.Path m = is_some (path_of m)
has_field fields.Interface m = is_some (interface_of m)
has_field fields.Member m = is_some (member_of m)
has_field fields.ErrorName m = is_some (error_name_of m)
has_field fields.ReplySerial m = is_some (reply_serial_of m)
has_field fields.Destination m = is_some (destination_of m)
has_field fields.Sender m = is_some (sender_of m)

-- the flag's bit (D-Bus Specification, "Message Format")
abbrev pub flag_bit : Flag → ℕ
flag_bit NoReplyExpected = 1
flag_bit NoAutoStart = 2
flag_bit AllowInteractiveAuthorization = 4

-- ---- arguments

-- the first byte of a type: of a struct `(` (D-Bus Specification, "Type System")
abbrev pub type_code : ArgType → ℕ
type_code types.Byte = 121
type_code types.Boolean = 98
type_code types.Int16 = 110
type_code types.Uint16 = 113
type_code types.Int32 = 105
type_code types.Uint32 = 117
type_code types.Int64 = 120
type_code types.Uint64 = 116
type_code types.Double = 100
type_code types.String = 115
type_code types.ObjectPath = 111
type_code types.Signature = 103
type_code types.UnixFd = 104
type_code types.Array = 97
type_code types.Variant = 118
type_code types.Struct = 40

abbrev pub text_code : TextType → ℕ
text_code text_types.String = 115
text_code text_types.ObjectPath = 111
text_code text_types.Signature = 103

-- a text of this type
abbrev pub text_of_code : ℕ → Option (ℕ × List ℕ) → Option (List ℕ)
text_of_code code None = None
text_of_code code (Some found) = if found.0 == code then Some found.1 else None

-- the nth of some values, with its type
abbrev pub value_at : ℕ → DataTypes → Values → Option (DataType × Value)
value_at zero (one_more t ts) (one_value v vs) = Some (t, v)
value_at (suc n) (one_more t ts) (one_value v vs) = value_at n ts vs
value_at _ _ _ = None

-- the code of a number's type, and its bits
abbrev pub number_in : Option (DataType × Value) → Option (ℕ × ℕ)
number_in (Some (basic code, number bits)) = Some (code, bits)
number_in _ = None

abbrev pub number_at : ArgNumber → Message → Option (ℕ × ℕ)
number_at n m = number_in (value_at (number_of_arg n) m.types m.arguments)

-- ---- texts

abbrev pub text_at : TextSource → Message → Option (List ℕ)
text_at (texts.Field field) m = field_text field m
text_at (texts.Arg n type) m = text_of_code (text_code type) (text_in (slice_get (arguments_of m) (number_of_arg n)))

-- the text ends with the back
abbrev pub EndsWith : List ℕ → List ℕ → Type 0
EndsWith text back = (rest : List ℕ) × (text ≡ rest ++ back)

-- byte by byte
abbrev pub TextRelates : TextRelation → List ℕ → List ℕ → Type 0
TextRelates relations.Equal text value = text ≡ value
TextRelates relations.Unequal text value = text ≡ value → ⊥
TextRelates relations.Begins text value = Begins text value
TextRelates relations.Ends text value = EndsWith text value

-- the sender owns the name, or there is a sender that doesn't
abbrev pub OwnerRelates : TextRelation → Bool → Message → Type 0
OwnerRelates relations.Unequal owns m = (is_some (sender_of m) ≡ true) × (owns ≡ false)
OwnerRelates _ owns m = owns ≡ true

-- a name that no message's SENDER is asks who owns it
abbrev pub TextHolds : TextSource → TextRelation → List ℕ → Message → (List ℕ → Bool) → Type 0
TextHolds source relation value m owned =
    MatchBool (asks_owner source relation value) (OwnerRelates relation (owned value) m) (IsSomeAnd (text_at source m) (λ text. TextRelates relation text value))

-- ---- paths and names, by their elements

-- an argument of type `s`, or for `argNpath` of type `o` too
abbrev pub scope_text : Scope → Message → Option (List ℕ)
scope_text PathNamespace m = path_of m
scope_text (ArgNamespace n) m = compared_text NameNamespace (text_in (slice_get (arguments_of m) (number_of_arg n)))
scope_text (ArgPath n) m = compared_text NestedPath (text_in (slice_get (arguments_of m) (number_of_arg n)))

-- as rules compare them (D-Bus Specification, "Match Rules")
abbrev pub IsWithin : Scope → List ℕ → List ℕ → Type 0
IsWithin PathNamespace text value = InPathNamespace text value
IsWithin (ArgNamespace n) text value = InNamespace text value
IsWithin (ArgPath n) text value = AreNested text value

-- ---- numbers

-- y n q i u x t
abbrev pub is_integer_code : ℕ → Bool
is_integer_code code =
    code == 121 || code == 98 || code == 110 || code == 113 || code == 105 || code == 117 || code == 120 || code == 116

-- n i x
abbrev pub is_signed_code : ℕ → Bool
is_signed_code code = code == 110 || code == 105 || code == 120

-- how many bits a number of a type has
abbrev pub bits_of_code : ℕ → ℕ
bits_of_code code = 8 * number_len code

-- the integer of a number's bits: a signed one is in two's complement
abbrev pub integer_of : ℕ → ℕ → Integer
integer_of code bits =
    if is_signed_code code then (if nat_lt bits (2 ^ (bits_of_code code - 1)) then Natural bits else Negative (2 ^ bits_of_code code - 1 - bits)) else Natural bits

-- a number's bits and its integer
abbrev pub natural : ℕ → ℕ × Integer
natural n = (n, Natural n)

abbrev pub integer_in : Option (ℕ × ℕ) → Option (ℕ × Integer)
integer_in None = None
integer_in (Some found) = if is_integer_code found.0 then Some (found.1, integer_of found.0 found.1) else None

-- the most arguments that are counted
abbrev pub max_args : ℕ
max_args = 64

abbrev pub integer_at : NumberSource → Message → Option (ℕ × Integer)
integer_at sources.Serial m = Some (natural m.serial)
integer_at sources.ReplySerial m = option_map natural (reply_serial_of m)
integer_at sources.Flags m = Some (natural m.flags)
integer_at sources.BodyLength m = Some (natural (length (body_bytes m)))
integer_at sources.Args m = Some (natural (min (length (arguments_of m)) max_args))
integer_at sources.Length m = Some (natural (length (message_bytes m)))
integer_at (sources.Arg n) m = integer_in (number_at n m)

-- `Negative n` is -1 - n
abbrev pub is_less : Integer → Integer → Bool
is_less (Natural a) (Natural b) = nat_lt a b
is_less (Natural a) (Negative b) = false
is_less (Negative a) (Natural b) = true
is_less (Negative a) (Negative b) = nat_lt b a

-- the bits share one with a number, which isn't below 0
abbrev pub shares : ℕ → Integer → Bool
shares bits (Natural n) = not (bit_and bits n == 0)
shares bits (Negative n) = false

abbrev pub NumberRelates : NumberRelation → ℕ × Integer → Integer → Type 0
NumberRelates numbers.Equal found value = found.1 ≡ value
NumberRelates numbers.Unequal found value = found.1 ≡ value → ⊥
NumberRelates numbers.Less found value = is_less found.1 value ≡ true
NumberRelates numbers.AtMost found value = is_less value found.1 ≡ false
NumberRelates numbers.Greater found value = is_less value found.1 ≡ true
NumberRelates numbers.AtLeast found value = is_less found.1 value ≡ false
NumberRelates numbers.Shares found value = shares found.0 value ≡ true

-- ---- tests and filters

abbrev pub truth_bits : Bool → ℕ
truth_bits false = 0
truth_bits true = 1

-- what a test says of a message, whose sender is the primary owner of the owned names
abbrev pub TestHolds : Test → Message → (List ℕ → Bool) → Type 0
TestHolds (tests.Kind equality kind) m owned = Says equality (m.kind ≡ kind_meant kind)
TestHolds tests.Broadcast m owned = destination_of m ≡ None
TestHolds (tests.Flag flag) m owned = not (bit_and m.flags (flag_bit flag) == 0) ≡ true
TestHolds (tests.HasField field) m owned = has_field field m ≡ true
TestHolds (tests.HasArg n) m owned = number_of_arg n < length (arguments_of m)
TestHolds (tests.IsType n type) m owned = IsSomeAnd (slice_get (arguments_of m) (number_of_arg n)) (λ a. a.code ≡ type_code type)
TestHolds (tests.Truth n equality truth) m owned =
    IsSomeAnd (number_at n m) (λ found. (found.0 ≡ 98) × Says equality (found.1 ≡ truth_bits truth))
TestHolds (tests.Text source relation value) m owned = TextHolds source relation value m owned
TestHolds (tests.Within scope equality value) m owned =
    IsSomeAnd (scope_text scope m) (λ text. Says equality (IsWithin scope text value))
TestHolds (tests.Number source relation value) m owned =
    IsSomeAnd (integer_at source m) (λ found. NumberRelates relation found value)

abbrev mutual
  pub FilterHolds : FilterTree → Message → (List ℕ → Bool) → Type 0
  FilterHolds (test t) m owned = TestHolds t m owned
  FilterHolds (all fs) m owned = EachHolds fs m owned
  FilterHolds (any fs) m owned = OneHolds fs m owned
  FilterHolds (negation f) m owned = FilterHolds f m owned → ⊥

  pub EachHolds : FilterTrees → Message → (List ℕ → Bool) → Type 0
  EachHolds no_filters m owned = Unit {0}
  EachHolds (one_filter f fs) m owned = FilterHolds f m owned × EachHolds fs m owned

  pub OneHolds : FilterTrees → Message → (List ℕ → Bool) → Type 0
  OneHolds no_filters m owned = ⊥
  OneHolds (one_filter f fs) m owned = FilterHolds f m owned ⊎ OneHolds fs m owned
