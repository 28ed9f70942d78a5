-- Which values an operand takes with an operator, and the tests that they make (own).
use Rattle.std.specs.Prelude.{ℕ, Bool, true, List, Option, Some, None, option_map, ◌==◌, if◌then◌else◌}
use Rattle.std.specs.Option.{option_and_then}
use Rattle.signature.specs.Name.{is_interface, is_member, is_path, is_bus_name, is_namespace}
use Rattle.match_key.specs.Kinds.{kind_named}
use Rattle.filter.specs.declared.integer.Integer.{Integer}
use Rattle.filter.specs.declared.integer.Integer.TheVariants.{Natural, Negative}
use Rattle.filter.specs.declared.test.Equality.{Equality}
use Rattle.filter.specs.declared.test.Flag.{Flag}
use Rattle.filter.specs.declared.test.Flag.TheVariants.{NoReplyExpected, NoAutoStart, AllowInteractiveAuthorization}
use Rattle.filter.specs.declared.test.TextField.{TextField}
use Rattle.filter.specs.declared.test.TextField.TheVariants.{Path, Interface, Member, ErrorName, Destination, Sender}
use Rattle.filter.specs.declared.test.TextType.{TextType}
use Rattle.filter.specs.declared.test.TextType.TheVariants as types
use Rattle.filter.specs.declared.test.TextSource.{TextSource}
use Rattle.filter.specs.declared.test.TextSource.TheVariants as sources
use Rattle.filter.specs.declared.test.TextRelation.{TextRelation}
use Rattle.filter.specs.declared.test.TextRelation.TheVariants.{Equal, Unequal, Begins, Ends}
use Rattle.filter.specs.declared.test.Scope.{Scope}
use Rattle.filter.specs.declared.test.Scope.TheVariants.{PathNamespace, ArgNamespace, ArgPath}
use Rattle.filter.specs.declared.test.NumberSource.{NumberSource}
use Rattle.filter.specs.declared.test.NumberSource.TheVariants as numbers
use Rattle.filter.specs.declared.test.NumberRelation.{NumberRelation}
use Rattle.filter.specs.declared.test.NumberRelation.TheVariants.{Shares}
use Rattle.filter.specs.declared.test.Test.{Test}
use Rattle.filter.specs.declared.test.Test.TheVariants as tests
use Rattle.filter.specs.declared.opening.Operand.{Operand}
use Rattle.filter.specs.declared.opening.Operand.TheVariants as operands
use Rattle.filter.specs.declared.operator.Operator.{Operator}
use Rattle.filter.specs.declared.value.Value.{Value}
use Rattle.filter.specs.declared.value.Value.TheVariants as values
use Rattle.filter.specs.Operators.{equality_of, text_relation_of, number_relation_of}

infixl 10 ◌>>=◌
abbrev pub ◌>>=◌ : {A B : Type 0} → Option A → (A → Option B) → Option B
o >>= f = option_and_then f o

abbrev pub test_if : Bool → Test → Option Test
test_if allowed test = if allowed then Some test else None

-- ---- texts

-- the texts that a field may equal
abbrev pub is_text_of_field : TextField → List ℕ → Bool
is_text_of_field Path text = is_path text
is_text_of_field Interface text = is_interface text
is_text_of_field Member text = is_member text
is_text_of_field ErrorName text = is_interface text
is_text_of_field Destination text = is_bus_name text
is_text_of_field Sender text = is_bus_name text

-- the texts that an argument of a type may equal
abbrev pub is_text_of_type : TextType → List ℕ → Bool
is_text_of_type types.String text = true
is_text_of_type types.ObjectPath text = is_path text
is_text_of_type types.Signature text = true

abbrev pub is_text_of : TextSource → List ℕ → Bool
is_text_of (sources.Field field) text = is_text_of_field field text
is_text_of (sources.Arg n type) text = is_text_of_type type text

-- any text may begin or end another
abbrev pub is_compared : TextSource → TextRelation → List ℕ → Bool
is_compared source Equal text = is_text_of source text
is_compared source Unequal text = is_text_of source text
is_compared source Begins text = true
is_compared source Ends text = true

abbrev pub text_test : TextSource → TextRelation → List ℕ → Option Test
text_test source relation text = test_if (is_compared source relation text) (tests.Text source relation text)

abbrev pub is_text_of_scope : Scope → List ℕ → Bool
is_text_of_scope PathNamespace text = is_path text
is_text_of_scope (ArgNamespace n) text = is_namespace text
is_text_of_scope (ArgPath n) text = true

abbrev pub scope_test : Scope → Equality → List ℕ → Option Test
scope_test scope equality text = test_if (is_text_of_scope scope text) (tests.Within scope equality text)

abbrev pub kind_test : Equality → List ℕ → Option Test
kind_test equality text = option_map (tests.Kind equality) (kind_named text)

-- ---- numbers

-- the flag of a bit
abbrev pub flag_of_bit : ℕ → Option Flag
flag_of_bit bit =
    if bit == 1 then Some NoReplyExpected else if bit == 2 then Some NoAutoStart
    else if bit == 4 then Some AllowInteractiveAuthorization else None

abbrev pub flag_or_bits : ℕ → Option Flag → Test
flag_or_bits bits (Some flag) = tests.Flag flag
flag_or_bits bits None = tests.Number numbers.Flags Shares (Natural bits)

-- `flags & 1` is the test of a flag
abbrev pub flags_test : ℕ → Test
flags_test bits = flag_or_bits bits (flag_of_bit bits)

-- `&` takes nothing below 0
abbrev pub shares_test : NumberSource → Integer → Option Test
shares_test source (Negative n) = None
shares_test numbers.Flags (Natural bits) = Some (flags_test bits)
shares_test source integer = Some (tests.Number source Shares integer)

abbrev pub number_test : NumberSource → NumberRelation → Integer → Option Test
number_test source Shares integer = shares_test source integer
number_test source relation integer = Some (tests.Number source relation integer)

-- ---- any value

abbrev pub test_of_text : Operand → Operator → List ℕ → Option Test
test_of_text operands.Kind op text = equality_of op >>= λ equality. kind_test equality text
test_of_text (operands.Text source) op text = text_relation_of op >>= λ relation. text_test source relation text
test_of_text (operands.Scope scope) op text = equality_of op >>= λ equality. scope_test scope equality text
test_of_text (operands.Number source) op text = None
test_of_text (operands.Arg n) op text = text_relation_of op >>= λ relation. text_test (sources.Arg n types.String) relation text

abbrev pub test_of_integer : Operand → Operator → Integer → Option Test
test_of_integer (operands.Number source) op integer = number_relation_of op >>= λ relation. number_test source relation integer
test_of_integer (operands.Arg n) op integer = number_relation_of op >>= λ relation. number_test (numbers.Arg n) relation integer
test_of_integer _ op integer = None

abbrev pub test_of_truth : Operand → Operator → Bool → Option Test
test_of_truth (operands.Arg n) op truth = equality_of op >>= λ equality. Some (tests.Truth n equality truth)
test_of_truth _ op truth = None

-- the test that an operand and an operator make with a value, if they take it
abbrev pub test_of : Operand → Operator → Value → Option Test
test_of operand op (values.Text text) = test_of_text operand op text
test_of operand op (values.Integer integer) = test_of_integer operand op integer
test_of operand op (values.Truth truth) = test_of_truth operand op truth
