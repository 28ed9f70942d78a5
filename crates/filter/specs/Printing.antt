-- Filters as texts: one blank between tokens and none inside parentheses, and no parentheses that aren't needed (own).
use Rattle.std.specs.Prelude.{ℕ, ◌+◌, Bool, true, false, List, [], ◌∷◌, ◌++◌, ◌==◌, codes, decimal, if◌then◌else◌}
use Rattle.std.specs.List.{flat_map}
use Rattle.match_key.specs.ArgNumber.{number_of_arg}
use Rattle.match_key.specs.Kinds.{kind_word}
use Rattle.match_key.specs.declared.arg_number.ArgNumber.{ArgNumber}
use Rattle.match_key.specs.declared.kind_name.KindName.{KindName}
use Rattle.match_key.specs.declared.kind_name.KindName.TheVariants as kinds
use Rattle.filter.specs.declared.integer.Integer.{Integer}
use Rattle.filter.specs.declared.integer.Integer.TheVariants.{Natural, Negative}
use Rattle.filter.specs.declared.test.Equality.{Equality}
use Rattle.filter.specs.declared.test.Equality.TheVariants as equalities
use Rattle.filter.specs.declared.test.Flag.{Flag}
use Rattle.filter.specs.declared.test.Flag.TheVariants.{NoReplyExpected, NoAutoStart, AllowInteractiveAuthorization}
use Rattle.filter.specs.declared.test.Field.{Field}
use Rattle.filter.specs.declared.test.Field.TheVariants as fields
use Rattle.filter.specs.declared.test.TextType.{TextType}
use Rattle.filter.specs.declared.test.TextType.TheVariants as text_types
use Rattle.filter.specs.declared.test.TextSource.{TextSource}
use Rattle.filter.specs.declared.test.TextSource.TheVariants as sources
use Rattle.filter.specs.declared.test.TextRelation.{TextRelation}
use Rattle.filter.specs.declared.test.TextRelation.TheVariants as relations
use Rattle.filter.specs.declared.test.Scope.{Scope}
use Rattle.filter.specs.declared.test.Scope.TheVariants as scopes
use Rattle.filter.specs.declared.test.NumberSource.{NumberSource}
use Rattle.filter.specs.declared.test.NumberSource.TheVariants as numbers
use Rattle.filter.specs.declared.test.NumberRelation.{NumberRelation}
use Rattle.filter.specs.declared.test.NumberRelation.TheVariants as orders
use Rattle.filter.specs.declared.test.ArgType.{ArgType}
use Rattle.filter.specs.declared.test.ArgType.TheVariants as types
use Rattle.filter.specs.declared.test.Test.{Test}
use Rattle.filter.specs.declared.test.Test.TheVariants as tests
use Rattle.filter.specs.FilterTree.{FilterTree, FilterTrees, test, all, any, negation, no_filters, one_more}
use Rattle.filter.specs.WordTables.{field_of_text}

-- ---- values

-- a backslash before each byte that is this one
abbrev pub escape_all : ℕ → List ℕ → List ℕ
escape_all mark text = flat_map (λ b. if b == mark then 92 ∷ mark ∷ [] else b ∷ []) text

-- a text in quotes: a backslash before each backslash, and then before each apostrophe
abbrev pub quoted_text : List ℕ → List ℕ
quoted_text text = codes "'" ++ escape_all 39 (escape_all 92 text) ++ codes "'"

abbrev pub integer_text : Integer → List ℕ
integer_text (Natural n) = decimal n
integer_text (Negative n) = codes "-" ++ decimal (n + 1)

abbrev pub truth_text : Bool → List ℕ
truth_text true = codes "true"
truth_text false = codes "false"

-- ---- operators, with the blanks around them

abbrev pub equality_text : Equality → List ℕ
equality_text equalities.Equal = codes " = "
equality_text equalities.Unequal = codes " != "

abbrev pub relation_text : TextRelation → List ℕ
relation_text relations.Equal = codes " = "
relation_text relations.Unequal = codes " != "
relation_text relations.Begins = codes " begins "
relation_text relations.Ends = codes " ends "

abbrev pub order_text : NumberRelation → List ℕ
order_text orders.Equal = codes " = "
order_text orders.Unequal = codes " != "
order_text orders.Less = codes " < "
order_text orders.AtMost = codes " <= "
order_text orders.Greater = codes " > "
order_text orders.AtLeast = codes " >= "
order_text orders.Shares = codes " & "

-- ---- words

abbrev pub kind_text : KindName → List ℕ
kind_text kinds.MethodCall = codes "call"
kind_text kinds.MethodReturn = codes "reply"
kind_text kinds.Error = codes "error"
kind_text kinds.Signal = codes "signal"

abbrev pub flag_text : Flag → List ℕ
flag_text NoReplyExpected = codes "no_reply_expected"
flag_text NoAutoStart = codes "no_auto_start"
flag_text AllowInteractiveAuthorization = codes "allow_interactive_authorization"

abbrev pub field_text : Field → List ℕ
field_text fields.Path = codes "path"
field_text fields.Interface = codes "interface"
field_text fields.Member = codes "member"
field_text fields.ErrorName = codes "error_name"
field_text fields.ReplySerial = codes "reply_serial"
field_text fields.Destination = codes "destination"
field_text fields.Sender = codes "sender"

abbrev pub arg_text : ArgNumber → List ℕ
arg_text n = codes "arg" ++ decimal (number_of_arg n)

abbrev pub suffix_text : TextType → List ℕ
suffix_text text_types.String = []
suffix_text text_types.ObjectPath = codes "object"
suffix_text text_types.Signature = codes "signature"

abbrev pub source_text : TextSource → List ℕ
source_text (sources.Field field) = field_text (field_of_text field)
source_text (sources.Arg n type) = arg_text n ++ suffix_text type

abbrev pub scope_text : Scope → List ℕ
scope_text scopes.PathNamespace = codes "path_namespace"
scope_text (scopes.ArgNamespace n) = arg_text n ++ codes "namespace"
scope_text (scopes.ArgPath n) = arg_text n ++ codes "path"

abbrev pub number_text : NumberSource → List ℕ
number_text numbers.Serial = codes "serial"
number_text numbers.ReplySerial = codes "reply_serial"
number_text numbers.Flags = codes "flags"
number_text numbers.BodyLength = codes "body_length"
number_text numbers.Args = codes "args"
number_text numbers.Length = codes "length"
number_text (numbers.Arg n) = arg_text n

abbrev pub type_text : ArgType → List ℕ
type_text types.Byte = codes "y"
type_text types.Boolean = codes "b"
type_text types.Int16 = codes "n"
type_text types.Uint16 = codes "q"
type_text types.Int32 = codes "i"
type_text types.Uint32 = codes "u"
type_text types.Int64 = codes "x"
type_text types.Uint64 = codes "t"
type_text types.Double = codes "d"
type_text types.String = codes "s"
type_text types.ObjectPath = codes "o"
type_text types.Signature = codes "g"
type_text types.UnixFd = codes "h"
type_text types.Array = codes "a"
type_text types.Variant = codes "v"
type_text types.Struct = codes "r"

-- ---- tests and filters

abbrev pub kind_test_text : Equality → KindName → List ℕ
kind_test_text equalities.Equal kind = kind_text kind
kind_test_text equalities.Unequal kind = codes "type != '" ++ kind_word kind ++ codes "'"

abbrev pub test_text : Test → List ℕ
test_text (tests.Kind equality kind) = kind_test_text equality kind
test_text tests.Broadcast = codes "broadcast"
test_text (tests.Flag flag) = flag_text flag
test_text (tests.HasField field) = codes "has " ++ field_text field
test_text (tests.HasArg n) = codes "has " ++ arg_text n
test_text (tests.IsType n type) = arg_text n ++ codes " is " ++ type_text type
test_text (tests.Truth n equality truth) = arg_text n ++ equality_text equality ++ truth_text truth
test_text (tests.Text source relation text) = source_text source ++ relation_text relation ++ quoted_text text
test_text (tests.Within scope equality text) = scope_text scope ++ equality_text equality ++ quoted_text text
test_text (tests.Number source relation integer) = number_text source ++ order_text relation ++ integer_text integer

-- an `and` or an `or`, which stands in parentheses in an `and` and under `not`
abbrev pub is_list : FilterTree → Bool
is_list (all fs) = true
is_list (any fs) = true
is_list f = false

-- an `or`, which stands in parentheses in an `or` too
abbrev pub is_any : FilterTree → Bool
is_any (any fs) = true
is_any f = false

abbrev pub text_if : Bool → List ℕ → List ℕ
text_if true text = text
text_if false text = []

abbrev mutual
  pub text_of : FilterTree → List ℕ
  text_of (test t) = test_text t
  text_of (all fs) = all_text false fs
  text_of (any fs) = any_text false fs
  text_of (negation f) = codes "not " ++ text_if (is_list f) (codes "(") ++ text_of f ++ text_if (is_list f) (codes ")")

  -- filters with `and` between them, and before the first where others stand in front
  pub all_text : Bool → FilterTrees → List ℕ
  all_text later no_filters = []
  all_text later (one_more f fs) =
      text_if later (codes " and ") ++ text_if (is_list f) (codes "(") ++ text_of f ++ text_if (is_list f) (codes ")") ++ all_text true fs

  pub any_text : Bool → FilterTrees → List ℕ
  any_text later no_filters = []
  any_text later (one_more f fs) =
      text_if later (codes " or ") ++ text_if (is_any f) (codes "(") ++ text_of f ++ text_if (is_any f) (codes ")") ++ any_text true fs
