-- The tokens of a test's text spell the test.
use Rattle.std.proofs.Common.{◌≡◌, ℕ, zero, suc, ◌+◌, ◌-◌, ◌^◌, ◌<◌, ◌≤◌, Bool, true, false, cond, List, [], ◌∷◌, ◌++◌, length, refl, sym, ap, ◌∙◌, subst, arith}
use Rattle.std.specs.Prelude.{Some, option_map, Ok, is_some, codes, decimal, ◌==◌, ◌&&◌, nat_lt, nat_le, slice_index, if◌then◌else◌}
use Rattle.std.specs.Char.{digit_value}
use Rattle.std.specs.List.{list_all}
use Rattle.std.specs.Option.{option_and_then}
use Rattle.std.specs.Str.{is_utf8, IsAscii}
use Rattle.std.specs.Str.Parse.{AllDigits, digits_value}
use Rattle.std.proofs.lemmas.Bool.{and_parts, and_right, ne_eqb, lt-ltb, le-leb, ltb-true, ltb-false, and_from}
use Rattle.std.proofs.lemmas.Fmt.{decimal_is_IsNumeral, decimal_digit}
use Rattle.std.proofs.lemmas.List.{append-nil}
use Rattle.std.proofs.lemmas.Str.{IsUtf8-from_ascii, is_utf8-from_IsUtf8}
use Rattle.std.proofs.lemmas.Str.Parse.{digit_from_value}
use Rattle.itoa.proofs.Decimal.{pair, decimal_two}
use Rattle.signature.specs.Name.{is_digit}
use Rattle.match_key.specs.ArgNumber.{number_of_arg}
use Rattle.match_key.specs.Kinds.{kind_word}
use Rattle.match_key.specs.declared.arg_number.Octal.{Octal}
use Rattle.match_key.specs.declared.arg_number.Octal.TheVariants.{Zero, One, Two, Three, Four, Five, Six, Seven}
use Rattle.match_key.specs.declared.arg_number.ArgNumber.{ArgNumber}
use Rattle.match_key.specs.declared.kind_name.KindName.{KindName}
use Rattle.match_key.specs.declared.kind_name.KindName.TheVariants as kinds
use Rattle.filter.specs.declared.integer.Integer.{Integer}
use Rattle.filter.specs.declared.integer.Integer.TheVariants.{Natural, Negative}
use Rattle.filter.specs.declared.opening.Operand.{Operand}
use Rattle.filter.specs.declared.opening.Operand.TheVariants as operands
use Rattle.filter.specs.declared.opening.Opening.TheVariants.{Begins}
use Rattle.filter.specs.declared.operator.Operator.{Operator}
use Rattle.filter.specs.declared.operator.Operator.TheVariants as operators
use Rattle.filter.specs.declared.test.Equality.{Equality}
use Rattle.filter.specs.declared.test.Equality.TheVariants as equalities
use Rattle.filter.specs.declared.test.Flag.{Flag}
use Rattle.filter.specs.declared.test.Flag.TheVariants.{NoReplyExpected, NoAutoStart, AllowInteractiveAuthorization}
use Rattle.filter.specs.declared.test.Field.{Field}
use Rattle.filter.specs.declared.test.Field.TheVariants as fields
use Rattle.filter.specs.declared.test.TextField.{TextField}
use Rattle.filter.specs.declared.test.TextField.TheVariants as text_fields
use Rattle.filter.specs.declared.test.TextType.TheVariants as text_types
use Rattle.filter.specs.declared.test.TextSource.{TextSource}
use Rattle.filter.specs.declared.test.TextSource.TheVariants as sources
use Rattle.filter.specs.declared.test.TextRelation.{TextRelation}
use Rattle.filter.specs.declared.test.TextRelation.TheVariants as relations
use Rattle.filter.specs.declared.test.Scope.{Scope}
use Rattle.filter.specs.declared.test.Scope.TheVariants as scopes
use Rattle.filter.specs.declared.test.NumberSource.{NumberSource}
use Rattle.filter.specs.declared.test.NumberSource.TheVariants as numbers
use Rattle.filter.specs.declared.test.NumberRelation.{NumberRelation}
use Rattle.filter.specs.declared.test.NumberRelation.TheVariants as orders
use Rattle.filter.specs.declared.test.ArgType.{ArgType}
use Rattle.filter.specs.declared.test.ArgType.TheVariants as types
use Rattle.filter.specs.declared.test.Test.{Test}
use Rattle.filter.specs.declared.test.Test.TheVariants as tests
use Rattle.filter.specs.declared.token.Sign.TheVariants as signs
use Rattle.filter.specs.declared.value.Value.TheVariants as values
use Rattle.filter.specs.Integers.{number_in, magnitude_of, negative_of, integer_of}
use Rattle.filter.specs.Tokens.{word, quoted, sign}
use Rattle.filter.specs.Values.{integer_value, text_value, word_value, value_of}
use Rattle.filter.specs.WordTables.{opening_of, has_test, type_named}
use Rattle.filter.specs.Operators.{operator_of, has_operator, equality_of, text_relation_of, number_relation_of}
use Rattle.filter.specs.Tests.{test_if, text_test, scope_test, number_test, test_of}
use Rattle.filter.specs.Grammar.{IsTest, whole, has, typed, compares}
use Rattle.filter.specs.Printing.{integer_text, truth_text, flag_text, field_text, arg_text, source_text, scope_text, number_text, type_text}
use Rattle.filter.proofs.CanonicalTokens.{escaped, equality_token, relation_token, order_token, kind_tokens, test_tokens}
use Rattle.filter.proofs.Escaped.{escaped_back}
use Rattle.filter.proofs.LexedTests.{number_below}
use Rattle.filter.proofs.SaidTests.{IsSaid, IsInteger}

-- ---- numbers

digits_fit : (ds : List ℕ) → AllDigits 10 ds → list_all (λ d. nat_lt (digit_value d) 10) ds ≡ true
digits_fit [] h = refl
digits_fit (d ∷ ds) h = and_from (nat_lt (digit_value d) 10) (list_all (λ c. nat_lt (digit_value c) 10) ds) (lt-ltb (digit_value d) 10 h.0) (digits_fit ds h.1)

digit_range : (c : ℕ) → digit_value c < 10 → (48 ≤ c) × (c ≤ 57)
digit_range c h = let r = digit_from_value c h in (omega arith, omega arith)

number_of_digits : (ds : List ℕ) → 0 < length ds → AllDigits 10 ds → digits_value 10 ds < 2 ^ 64 → number_in 10 ds ≡ Some (digits_value 10 ds)
unfolding number_in
number_of_digits ds some h fits =
    let full : length ds ≡ 0 → ⊥ = λ e. omega arith in
    rw (ne_eqb (length ds) 0 full, digits_fit ds h, lt-ltb (digits_value 10 ds) (2 ^ 64) fits) refl

isnt_hexadecimal : (ds : List ℕ) → AllDigits 10 ds → (slice_index ds 0 == 48 && slice_index ds 1 == 120) ≡ false
isnt_hexadecimal [] h = refl
isnt_hexadecimal (d ∷ []) h = and_right (d == 48) false refl
isnt_hexadecimal (d ∷ e ∷ ds) h =
    let r = digit_range e h.1.0 in
    let other : e ≡ 120 → ⊥ = λ s. omega arith in
    and_right (d == 48) (e == 120) (ne_eqb e 120 other)

magnitude_of_digits : (ds : List ℕ) → 0 < length ds → AllDigits 10 ds → digits_value 10 ds < 2 ^ 64 → magnitude_of ds ≡ Some (digits_value 10 ds)
magnitude_of_digits ds some h fits = rw (isnt_hexadecimal ds h) (number_of_digits ds some h fits)

magnitude_back : (n : ℕ) → n < 2 ^ 64 → magnitude_of (decimal n) ≡ Some n
magnitude_back n fits =
    let d = decimal_is_IsNumeral n fits in
    let same : digits_value 10 (decimal n) ≡ n = d.1 in
    magnitude_of_digits (decimal n) d.0.0 d.0.1 (omega arith) ∙ ap Some same

natural_back : (ds : List ℕ) (n : ℕ) → 0 < length ds → AllDigits 10 ds → magnitude_of ds ≡ Some n → word_value ds ≡ Ok (values.Integer (Natural n))
natural_back [] n some h e = absurd (omega arith)
natural_back (d ∷ ds) n some h e =
    let r = digit_range d h.0 in
    let digit : is_digit d ≡ true = and_from (nat_le 48 d) (nat_le d 57) (le-leb 48 d r.0) (le-leb d 57 r.1) in
    let other : d ≡ 45 → ⊥ = λ s. omega arith in
    let read : integer_of (d ∷ ds) ≡ Some (Natural n) = rw (ne_eqb d 45 other) (ap (option_map Natural) e) in
    rw digit (ap integer_value read)

negative_back : (n : ℕ) → n < 2 ^ 63 → negative_of (n + 1) ≡ Some (Negative n)
negative_back n h =
    let some : n + 1 ≡ 0 → ⊥ = λ s. omega arith in
    let one : n + 1 - 1 ≡ n = omega arith in
    rw (ne_eqb (n + 1) 0 some, le-leb (n + 1) (2 ^ 63) (omega arith)) (ap (λ m. Some (Negative m)) one)

integer_back : (i : Integer) → IsInteger i → value_of (word (integer_text i)) ≡ Ok (values.Integer i)
integer_back (Natural n) h = let d = decimal_is_IsNumeral n h in natural_back (decimal n) n d.0.0 d.0.1 (magnitude_back n h)
integer_back (Negative n) h = ap (λ m. integer_value (option_and_then negative_of m)) (magnitude_back (n + 1) (omega arith)) ∙ ap integer_value (negative_back n h)

-- ---- words with the number of an argument

-- a number below 100 by its digits
abbrev two_digits : ℕ → List ℕ
two_digits n = if nat_lt n 10 then (48 + n) ∷ [] else pair n

decimal_below : (n : ℕ) → n < 100 → decimal n ≡ two_digits n
decimal_below n h = go (nat_lt n 10) refl
  where
    go : (b : Bool) → nat_lt n 10 ≡ b → decimal n ≡ cond b ((48 + n) ∷ []) (pair n)
    go true is = decimal_digit n (ltb-true n 10 is)
    go false is = decimal_two n (ltb-false n 10 is) h

-- what the words of an argument begin, and the one after `has`
abbrev ArgWords : ArgNumber → List ℕ → Type 0
ArgWords n digits =
    (has_test (codes "arg" ++ digits) ≡ Ok (tests.HasArg n)) × (opening_of (codes "arg" ++ digits) ≡ Ok (Begins (operands.Arg n)))
    × (opening_of (codes "arg" ++ digits ++ codes "object") ≡ Ok (Begins (operands.Text (sources.Arg n text_types.ObjectPath))))
    × (opening_of (codes "arg" ++ digits ++ codes "signature") ≡ Ok (Begins (operands.Text (sources.Arg n text_types.Signature))))
    × (opening_of (codes "arg" ++ digits ++ codes "namespace") ≡ Ok (Begins (operands.Scope (scopes.ArgNamespace n))))
    × (opening_of (codes "arg" ++ digits ++ codes "path") ≡ Ok (Begins (operands.Scope (scopes.ArgPath n))))

arg_words : (n : ArgNumber) → ArgWords n (decimal (number_of_arg n))
arg_words n = subst (ArgWords n) (sym (decimal_below (number_of_arg n) (number_below n))) (go n.eights n.ones)
  where
    go : (high low : Octal) → ArgWords (record { eights = high; ones = low }) (two_digits (number_of_arg (record { eights = high; ones = low })))
    go Zero Zero = (refl, refl, refl, refl, refl, refl)
    go Zero _ = (refl, refl, refl, refl, refl, refl)
    go One Zero = (refl, refl, refl, refl, refl, refl)
    go One _ = (refl, refl, refl, refl, refl, refl)
    go Two Zero = (refl, refl, refl, refl, refl, refl)
    go Two _ = (refl, refl, refl, refl, refl, refl)
    go Three Zero = (refl, refl, refl, refl, refl, refl)
    go Three _ = (refl, refl, refl, refl, refl, refl)
    go Four Zero = (refl, refl, refl, refl, refl, refl)
    go Four _ = (refl, refl, refl, refl, refl, refl)
    go Five Zero = (refl, refl, refl, refl, refl, refl)
    go Five _ = (refl, refl, refl, refl, refl, refl)
    go Six Zero = (refl, refl, refl, refl, refl, refl)
    go Six _ = (refl, refl, refl, refl, refl, refl)
    go Seven Zero = (refl, refl, refl, refl, refl, refl)
    go Seven _ = (refl, refl, refl, refl, refl, refl)

-- ---- operators

abbrev equality_operator : Equality → Operator
equality_operator equalities.Equal = operators.Equal
equality_operator equalities.Unequal = operators.Unequal

equality_is : (e : Equality) → operator_of (equality_token e) ≡ Some (equality_operator e)
equality_is equalities.Equal = refl
equality_is equalities.Unequal = refl

equality_back : (e : Equality) → equality_of (equality_operator e) ≡ Some e
equality_back equalities.Equal = refl
equality_back equalities.Unequal = refl

abbrev relation_operator : TextRelation → Operator
relation_operator relations.Equal = operators.Equal
relation_operator relations.Unequal = operators.Unequal
relation_operator relations.Begins = operators.Begins
relation_operator relations.Ends = operators.Ends

relation_is : (r : TextRelation) → operator_of (relation_token r) ≡ Some (relation_operator r)
relation_is relations.Equal = refl
relation_is relations.Unequal = refl
relation_is relations.Begins = refl
relation_is relations.Ends = refl

relation_back : (r : TextRelation) → text_relation_of (relation_operator r) ≡ Some r
relation_back relations.Equal = refl
relation_back relations.Unequal = refl
relation_back relations.Begins = refl
relation_back relations.Ends = refl

abbrev order_operator : NumberRelation → Operator
order_operator orders.Equal = operators.Equal
order_operator orders.Unequal = operators.Unequal
order_operator orders.Less = operators.Less
order_operator orders.AtMost = operators.AtMost
order_operator orders.Greater = operators.Greater
order_operator orders.AtLeast = operators.AtLeast
order_operator orders.Shares = operators.Shares

order_is : (r : NumberRelation) → operator_of (order_token r) ≡ Some (order_operator r)
order_is orders.Equal = refl
order_is orders.Unequal = refl
order_is orders.Less = refl
order_is orders.AtMost = refl
order_is orders.Greater = refl
order_is orders.AtLeast = refl
order_is orders.Shares = refl

order_back : (r : NumberRelation) → number_relation_of (order_operator r) ≡ Some r
order_back orders.Equal = refl
order_back orders.Unequal = refl
order_back orders.Less = refl
order_back orders.AtMost = refl
order_back orders.Greater = refl
order_back orders.AtLeast = refl
order_back orders.Shares = refl

-- ---- tests of texts

text_back : (text : List ℕ) → is_utf8 text ≡ true → value_of (quoted (escaped text)) ≡ Ok (values.Text text)
text_back text utf8 = ap text_value (escaped_back text) ∙ rw utf8 refl

ascii : (bytes : List ℕ) → list_all (λ b. nat_lt b 128) bytes ≡ true → IsAscii bytes
ascii [] h i = omega arith
ascii (b ∷ bs) h zero = ltb-true b 128 (and_parts (nat_lt b 128) (list_all (λ c. nat_lt c 128) bs) h).0
ascii (b ∷ bs) h (suc i) = ascii bs (and_parts (nat_lt b 128) (list_all (λ c. nat_lt c 128) bs) h).1 i

ascii_utf8 : (bytes : List ℕ) → list_all (λ b. nat_lt b 128) bytes ≡ true → is_utf8 bytes ≡ true
ascii_utf8 bytes h = is_utf8-from_IsUtf8 bytes (IsUtf8-from_ascii bytes (ascii bytes h))

abbrev text_operand : TextSource → Operand
text_operand (sources.Arg n text_types.String) = operands.Arg n
text_operand source = operands.Text source

field_opens : (field : TextField) → opening_of (source_text (sources.Field field)) ≡ Ok (Begins (operands.Text (sources.Field field)))
field_opens text_fields.Path = refl
field_opens text_fields.Interface = refl
field_opens text_fields.Member = refl
field_opens text_fields.ErrorName = refl
field_opens text_fields.Destination = refl
field_opens text_fields.Sender = refl

source_opens : (source : TextSource) → opening_of (source_text source) ≡ Ok (Begins (text_operand source))
source_opens (sources.Field field) = field_opens field
source_opens (sources.Arg n text_types.String) = ap opening_of (append-nil (arg_text n)) ∙ (arg_words n).1
source_opens (sources.Arg n text_types.ObjectPath) = (arg_words n).2
source_opens (sources.Arg n text_types.Signature) = (arg_words n).3

text_has : (source : TextSource) (r : TextRelation) → has_operator (text_operand source) (relation_operator r) ≡ true
text_has (sources.Field field) r = ap is_some (relation_back r)
text_has (sources.Arg n text_types.String) r = refl
text_has (sources.Arg n text_types.ObjectPath) r = ap is_some (relation_back r)
text_has (sources.Arg n text_types.Signature) r = ap is_some (relation_back r)

text_makes : (source : TextSource) (r : TextRelation) (text : List ℕ) → test_of (text_operand source) (relation_operator r) (values.Text text) ≡ text_test source r text
text_makes (sources.Field field) r text = ap (option_and_then (λ relation. text_test (sources.Field field) relation text)) (relation_back r)
text_makes (sources.Arg n text_types.String) r text = ap (option_and_then (λ relation. text_test (sources.Arg n text_types.String) relation text)) (relation_back r)
text_makes (sources.Arg n text_types.ObjectPath) r text = ap (option_and_then (λ relation. text_test (sources.Arg n text_types.ObjectPath) relation text)) (relation_back r)
text_makes (sources.Arg n text_types.Signature) r text = ap (option_and_then (λ relation. text_test (sources.Arg n text_types.Signature) relation text)) (relation_back r)

scope_opens : (scope : Scope) → opening_of (scope_text scope) ≡ Ok (Begins (operands.Scope scope))
scope_opens scopes.PathNamespace = refl
scope_opens (scopes.ArgNamespace n) = (arg_words n).4
scope_opens (scopes.ArgPath n) = (arg_words n).5

-- ---- tests of numbers

abbrev number_operand : NumberSource → Operand
number_operand (numbers.Arg n) = operands.Arg n
number_operand source = operands.Number source

number_opens : (source : NumberSource) → opening_of (number_text source) ≡ Ok (Begins (number_operand source))
number_opens numbers.Serial = refl
number_opens numbers.ReplySerial = refl
number_opens numbers.Flags = refl
number_opens numbers.BodyLength = refl
number_opens numbers.Args = refl
number_opens numbers.Length = refl
number_opens (numbers.Arg n) = (arg_words n).1

number_has : (source : NumberSource) (r : NumberRelation) → has_operator (number_operand source) (order_operator r) ≡ true
number_has (numbers.Arg n) r = refl
number_has numbers.Serial r = ap is_some (order_back r)
number_has numbers.ReplySerial r = ap is_some (order_back r)
number_has numbers.Flags r = ap is_some (order_back r)
number_has numbers.BodyLength r = ap is_some (order_back r)
number_has numbers.Args r = ap is_some (order_back r)
number_has numbers.Length r = ap is_some (order_back r)

number_makes : (source : NumberSource) (r : NumberRelation) (i : Integer) → test_of (number_operand source) (order_operator r) (values.Integer i) ≡ number_test source r i
number_makes (numbers.Arg n) r i = ap (option_and_then (λ relation. number_test (numbers.Arg n) relation i)) (order_back r)
number_makes numbers.Serial r i = ap (option_and_then (λ relation. number_test numbers.Serial relation i)) (order_back r)
number_makes numbers.ReplySerial r i = ap (option_and_then (λ relation. number_test numbers.ReplySerial relation i)) (order_back r)
number_makes numbers.Flags r i = ap (option_and_then (λ relation. number_test numbers.Flags relation i)) (order_back r)
number_makes numbers.BodyLength r i = ap (option_and_then (λ relation. number_test numbers.BodyLength relation i)) (order_back r)
number_makes numbers.Args r i = ap (option_and_then (λ relation. number_test numbers.Args relation i)) (order_back r)
number_makes numbers.Length r i = ap (option_and_then (λ relation. number_test numbers.Length relation i)) (order_back r)

-- ---- the other tests

kind_again : (e : Equality) (k : KindName) → IsTest (kind_tokens e k) (tests.Kind e k)
kind_again equalities.Equal kinds.MethodCall = whole (codes "call") refl
kind_again equalities.Equal kinds.MethodReturn = whole (codes "reply") refl
kind_again equalities.Equal kinds.Error = whole (codes "error") refl
kind_again equalities.Equal kinds.Signal = whole (codes "signal") refl
kind_again equalities.Unequal kinds.MethodCall = compares (codes "type") (sign signs.Unequal) (quoted (kind_word kinds.MethodCall)) operands.Kind operators.Unequal (values.Text (kind_word kinds.MethodCall)) refl refl refl (text_back (kind_word kinds.MethodCall) (ascii_utf8 (kind_word kinds.MethodCall) refl)) refl
kind_again equalities.Unequal kinds.MethodReturn = compares (codes "type") (sign signs.Unequal) (quoted (kind_word kinds.MethodReturn)) operands.Kind operators.Unequal (values.Text (kind_word kinds.MethodReturn)) refl refl refl (text_back (kind_word kinds.MethodReturn) (ascii_utf8 (kind_word kinds.MethodReturn) refl)) refl
kind_again equalities.Unequal kinds.Error = compares (codes "type") (sign signs.Unequal) (quoted (kind_word kinds.Error)) operands.Kind operators.Unequal (values.Text (kind_word kinds.Error)) refl refl refl (text_back (kind_word kinds.Error) (ascii_utf8 (kind_word kinds.Error) refl)) refl
kind_again equalities.Unequal kinds.Signal = compares (codes "type") (sign signs.Unequal) (quoted (kind_word kinds.Signal)) operands.Kind operators.Unequal (values.Text (kind_word kinds.Signal)) refl refl refl (text_back (kind_word kinds.Signal) (ascii_utf8 (kind_word kinds.Signal) refl)) refl

flag_again : (f : Flag) → IsTest (word (flag_text f) ∷ []) (tests.Flag f)
flag_again NoReplyExpected = whole (codes "no_reply_expected") refl
flag_again NoAutoStart = whole (codes "no_auto_start") refl
flag_again AllowInteractiveAuthorization = whole (codes "allow_interactive_authorization") refl

field_back : (f : Field) → has_test (field_text f) ≡ Ok (tests.HasField f)
field_back fields.Path = refl
field_back fields.Interface = refl
field_back fields.Member = refl
field_back fields.ErrorName = refl
field_back fields.ReplySerial = refl
field_back fields.Destination = refl
field_back fields.Sender = refl

type_back : (t : ArgType) → type_named (type_text t) ≡ Some t
type_back types.Byte = refl
type_back types.Boolean = refl
type_back types.Int16 = refl
type_back types.Uint16 = refl
type_back types.Int32 = refl
type_back types.Uint32 = refl
type_back types.Int64 = refl
type_back types.Uint64 = refl
type_back types.Double = refl
type_back types.String = refl
type_back types.ObjectPath = refl
type_back types.Signature = refl
type_back types.UnixFd = refl
type_back types.Array = refl
type_back types.Variant = refl
type_back types.Struct = refl

truth_back : (b : Bool) → value_of (word (truth_text b)) ≡ Ok (values.Truth b)
truth_back true = refl
truth_back false = refl

pub test_again : (t : Test) → IsSaid t → IsTest (test_tokens t) t
test_again (tests.Kind equality kind) h = kind_again equality kind
test_again tests.Broadcast h = whole (codes "broadcast") refl
test_again (tests.Flag flag) h = flag_again flag
test_again (tests.HasField field) h = has (codes "has") (field_text field) refl (field_back field)
test_again (tests.HasArg n) h = has (codes "has") (arg_text n) refl (arg_words n).0
test_again (tests.IsType n type) h = typed (arg_text n) (type_text type) (word (codes "is")) n type (arg_words n).1 refl (type_back type)
test_again (tests.Truth n equality truth) h =
    compares (arg_text n) (equality_token equality) (word (truth_text truth)) (operands.Arg n) (equality_operator equality) (values.Truth truth)
    (arg_words n).1 (equality_is equality) refl (truth_back truth) (ap (option_and_then (λ e. Some (tests.Truth n e truth))) (equality_back equality))
test_again (tests.Text source relation text) h =
    let made : text_test source relation text ≡ Some (tests.Text source relation text) = ap (λ b. test_if b (tests.Text source relation text)) h.0 in
    compares (source_text source) (relation_token relation) (quoted (escaped text)) (text_operand source) (relation_operator relation) (values.Text text)
    (source_opens source) (relation_is relation) (text_has source relation) (text_back text h.1) (text_makes source relation text ∙ made)
test_again (tests.Within scope equality text) h =
    let made : scope_test scope equality text ≡ Some (tests.Within scope equality text) = ap (λ b. test_if b (tests.Within scope equality text)) h.0 in
    compares (scope_text scope) (equality_token equality) (quoted (escaped text)) (operands.Scope scope) (equality_operator equality) (values.Text text)
    (scope_opens scope) (equality_is equality) (ap is_some (equality_back equality)) (text_back text h.1) (ap (option_and_then (λ e. scope_test scope e text)) (equality_back equality) ∙ made)
test_again (tests.Number source relation integer) h =
    compares (number_text source) (order_token relation) (word (integer_text integer)) (number_operand source) (order_operator relation) (values.Integer integer)
    (number_opens source) (order_is relation) (number_has source relation) (integer_back integer h.1) (number_makes source relation integer ∙ h.0)
