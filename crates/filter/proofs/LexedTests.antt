-- The tokens of a test's text are read of it.
use Rattle.std.proofs.Common.{◌≡◌, ℕ, ◌+◌, ◌<◌, ◌≤◌, ◌^◌, Bool, true, false, List, [], ◌∷◌, ◌++◌, length, refl, ◌∙◌, arith}
use Rattle.std.specs.Prelude.{codes, decimal}
use Rattle.std.specs.Char.{digit_value}
use Rattle.std.specs.List.{list_all}
use Rattle.std.specs.Str.Parse.{AllDigits}
use Rattle.std.proofs.lemmas.Bool.{and_from}
use Rattle.std.proofs.lemmas.Bool.Decides.{nat_tests}
use Rattle.std.proofs.lemmas.Fmt.{decimal_is_IsNumeral}
use Rattle.std.proofs.lemmas.List.Folds.{list_all-append}
use Rattle.std.proofs.lemmas.Str.Parse.{digit_from_value}
use Rattle.match_key.specs.ArgNumber.{octal_value, number_of_arg}
use Rattle.match_key.specs.declared.arg_number.Octal.{Octal}
use Rattle.match_key.specs.declared.arg_number.Octal.TheVariants.{Zero, One, Two, Three, Four, Five, Six, Seven}
use Rattle.match_key.specs.declared.arg_number.ArgNumber.{ArgNumber}
use Rattle.match_key.specs.declared.kind_name.KindName.{KindName}
use Rattle.match_key.specs.declared.kind_name.KindName.TheVariants as kinds
use Rattle.filter.specs.declared.integer.Integer.{Integer}
use Rattle.filter.specs.declared.integer.Integer.TheVariants.{Natural, Negative}
use Rattle.filter.specs.declared.test.Equality.{Equality}
use Rattle.filter.specs.declared.test.Equality.TheVariants as equalities
use Rattle.filter.specs.declared.test.Flag.{Flag}
use Rattle.filter.specs.declared.test.Flag.TheVariants.{NoReplyExpected, NoAutoStart, AllowInteractiveAuthorization}
use Rattle.filter.specs.declared.test.Field.{Field}
use Rattle.filter.specs.declared.test.Field.TheVariants as fields
use Rattle.filter.specs.declared.test.TextType.TheVariants as text_types
use Rattle.filter.specs.declared.test.TextSource.{TextSource}
use Rattle.filter.specs.declared.test.TextSource.TheVariants as sources
use Rattle.filter.specs.declared.test.TextRelation.{TextRelation}
use Rattle.filter.specs.declared.test.TextRelation.TheVariants as relations
use Rattle.filter.specs.declared.test.Scope.{Scope}
use Rattle.filter.specs.declared.test.Scope.TheVariants as scopes
use Rattle.filter.specs.declared.test.NumberSource.{NumberSource}
use Rattle.filter.specs.declared.test.NumberSource.TheVariants as numbers
use Rattle.filter.specs.declared.test.NumberRelation.{NumberRelation}
use Rattle.filter.specs.declared.test.NumberRelation.TheVariants as orders
use Rattle.filter.specs.declared.test.ArgType.{ArgType}
use Rattle.filter.specs.declared.test.ArgType.TheVariants as types
use Rattle.filter.specs.declared.test.Test.{Test}
use Rattle.filter.specs.declared.test.Test.TheVariants as tests
use Rattle.filter.specs.Lexis.{is_word_byte}
use Rattle.filter.specs.Tokens.{Lexeme, word}
use Rattle.filter.specs.WordTables.{field_of_text}
use Rattle.filter.specs.Printing.{integer_text, truth_text, equality_text, relation_text, order_text, flag_text, field_text, arg_text, source_text, scope_text, number_text, type_text, kind_test_text, test_text}
use Rattle.filter.proofs.CanonicalTokens.{equality_token, relation_token, order_token, kind_tokens, test_tokens}
use Rattle.filter.proofs.SaidTests.{IsSaid, IsInteger}
use Rattle.filter.proofs.Lexed.{IsLexed, IsFree, ends, word_lexed, word_free, blank_word_free, quoted_free, free_lexed, lexed_free, then_lexed}

-- ---- signs and words of operators, with the blanks around them

equality_free : (e : Equality) → IsFree (equality_text e) (equality_token e ∷ [])
equality_free equalities.Equal = record { on = λ rest us on p. (refl, on _) }
equality_free equalities.Unequal = record { on = λ rest us on p. (refl, on _) }

equality_ends : (e : Equality) (rest : List ℕ) → ends (equality_text e ++ rest) ≡ true
equality_ends equalities.Equal rest = refl
equality_ends equalities.Unequal rest = refl

relation_free : (r : TextRelation) → IsFree (relation_text r) (relation_token r ∷ [])
relation_free relations.Equal = equality_free equalities.Equal
relation_free relations.Unequal = equality_free equalities.Unequal
relation_free relations.Begins = blank_word_free 98 (codes "egins") refl
relation_free relations.Ends = blank_word_free 101 (codes "nds") refl

relation_ends : (r : TextRelation) (rest : List ℕ) → ends (relation_text r ++ rest) ≡ true
relation_ends relations.Equal rest = refl
relation_ends relations.Unequal rest = refl
relation_ends relations.Begins rest = refl
relation_ends relations.Ends rest = refl

order_free : (r : NumberRelation) → IsFree (order_text r) (order_token r ∷ [])
order_free orders.Equal = equality_free equalities.Equal
order_free orders.Unequal = equality_free equalities.Unequal
order_free orders.Less = record { on = λ rest us on p. (refl, on _) }
order_free orders.AtMost = record { on = λ rest us on p. (refl, on _) }
order_free orders.Greater = record { on = λ rest us on p. (refl, on _) }
order_free orders.AtLeast = record { on = λ rest us on p. (refl, on _) }
order_free orders.Shares = record { on = λ rest us on p. (refl, on _) }

order_ends : (r : NumberRelation) (rest : List ℕ) → ends (order_text r ++ rest) ≡ true
order_ends orders.Equal rest = refl
order_ends orders.Unequal rest = refl
order_ends orders.Less rest = refl
order_ends orders.AtMost rest = refl
order_ends orders.Greater rest = refl
order_ends orders.AtLeast rest = refl
order_ends orders.Shares rest = refl

-- ---- words with numbers

digit_is_word : (c : ℕ) → digit_value c < 10 → is_word_byte c ≡ true
digit_is_word c h = let r = digit_from_value c h in grind (arith, nat_tests)

digits_are_words : (ds : List ℕ) → AllDigits 10 ds → list_all is_word_byte ds ≡ true
digits_are_words [] h = refl
digits_are_words (d ∷ ds) h = and_from (is_word_byte d) (list_all is_word_byte ds) (digit_is_word d h.0) (digits_are_words ds h.1)

decimal_is_word : (n : ℕ) → n < 2 ^ 64 → list_all is_word_byte (decimal n) ≡ true
decimal_is_word n h = digits_are_words (decimal n) (decimal_is_IsNumeral n h).0.1

some_word : (w : List ℕ) → 0 < length w → list_all is_word_byte w ≡ true → IsLexed w (word w ∷ [])
some_word [] some h = absurd (omega arith)
some_word (b ∷ bs) some h = word_lexed b bs h

integer_lexed : (i : Integer) → IsInteger i → IsLexed (integer_text i) (word (integer_text i) ∷ [])
integer_lexed (Natural n) h = some_word (decimal n) (decimal_is_IsNumeral n h).0.0 (decimal_is_word n h)
integer_lexed (Negative n) h = word_lexed 45 (decimal (n + 1)) (decimal_is_word (n + 1) (omega arith))

octal_small : (d : Octal) → octal_value d ≤ 7
octal_small Zero = omega arith
octal_small One = omega arith
octal_small Two = omega arith
octal_small Three = omega arith
octal_small Four = omega arith
octal_small Five = omega arith
octal_small Six = omega arith
octal_small Seven = omega arith

pub number_below : (n : ArgNumber) → number_of_arg n < 100
number_below n = let eights = octal_small n.eights in let ones = octal_small n.ones in omega arith

number_small : (n : ArgNumber) → number_of_arg n < 2 ^ 64
number_small n = let below = number_below n in omega arith

arg_lexed : (n : ArgNumber) → IsLexed (arg_text n) (word (arg_text n) ∷ [])
arg_lexed n = word_lexed 97 (114 ∷ 103 ∷ decimal (number_of_arg n)) (decimal_is_word (number_of_arg n) (number_small n))

suffixed_lexed : (n : ArgNumber) (suffix : List ℕ) → list_all is_word_byte suffix ≡ true → IsLexed (arg_text n ++ suffix) (word (arg_text n ++ suffix) ∷ [])
suffixed_lexed n suffix h =
    let digits : List ℕ = decimal (number_of_arg n) in
    word_lexed 97 (114 ∷ 103 ∷ (digits ++ suffix)) (list_all-append is_word_byte digits suffix ∙ and_from (list_all is_word_byte digits) (list_all is_word_byte suffix) (decimal_is_word (number_of_arg n) (number_small n)) h)

-- ---- words

field_lexed : (f : Field) → IsLexed (field_text f) (word (field_text f) ∷ [])
field_lexed fields.Path = word_lexed 112 (codes "ath") refl
field_lexed fields.Interface = word_lexed 105 (codes "nterface") refl
field_lexed fields.Member = word_lexed 109 (codes "ember") refl
field_lexed fields.ErrorName = word_lexed 101 (codes "rror_name") refl
field_lexed fields.ReplySerial = word_lexed 114 (codes "eply_serial") refl
field_lexed fields.Destination = word_lexed 100 (codes "estination") refl
field_lexed fields.Sender = word_lexed 115 (codes "ender") refl

flag_lexed : (f : Flag) → IsLexed (flag_text f) (word (flag_text f) ∷ [])
flag_lexed NoReplyExpected = word_lexed 110 (codes "o_reply_expected") refl
flag_lexed NoAutoStart = word_lexed 110 (codes "o_auto_start") refl
flag_lexed AllowInteractiveAuthorization = word_lexed 97 (codes "llow_interactive_authorization") refl

type_lexed : (t : ArgType) → IsLexed (type_text t) (word (type_text t) ∷ [])
type_lexed types.Byte = word_lexed 121 [] refl
type_lexed types.Boolean = word_lexed 98 [] refl
type_lexed types.Int16 = word_lexed 110 [] refl
type_lexed types.Uint16 = word_lexed 113 [] refl
type_lexed types.Int32 = word_lexed 105 [] refl
type_lexed types.Uint32 = word_lexed 117 [] refl
type_lexed types.Int64 = word_lexed 120 [] refl
type_lexed types.Uint64 = word_lexed 116 [] refl
type_lexed types.Double = word_lexed 100 [] refl
type_lexed types.String = word_lexed 115 [] refl
type_lexed types.ObjectPath = word_lexed 111 [] refl
type_lexed types.Signature = word_lexed 103 [] refl
type_lexed types.UnixFd = word_lexed 104 [] refl
type_lexed types.Array = word_lexed 97 [] refl
type_lexed types.Variant = word_lexed 118 [] refl
type_lexed types.Struct = word_lexed 114 [] refl

truth_lexed : (b : Bool) → IsLexed (truth_text b) (word (truth_text b) ∷ [])
truth_lexed true = word_lexed 116 (codes "rue") refl
truth_lexed false = word_lexed 102 (codes "alse") refl

source_lexed : (s : TextSource) → IsLexed (source_text s) (word (source_text s) ∷ [])
source_lexed (sources.Field field) = field_lexed (field_of_text field)
source_lexed (sources.Arg n text_types.String) = suffixed_lexed n [] refl
source_lexed (sources.Arg n text_types.ObjectPath) = suffixed_lexed n (codes "object") refl
source_lexed (sources.Arg n text_types.Signature) = suffixed_lexed n (codes "signature") refl

scope_lexed : (s : Scope) → IsLexed (scope_text s) (word (scope_text s) ∷ [])
scope_lexed scopes.PathNamespace = word_lexed 112 (codes "ath_namespace") refl
scope_lexed (scopes.ArgNamespace n) = suffixed_lexed n (codes "namespace") refl
scope_lexed (scopes.ArgPath n) = suffixed_lexed n (codes "path") refl

number_lexed : (s : NumberSource) → IsLexed (number_text s) (word (number_text s) ∷ [])
number_lexed numbers.Serial = word_lexed 115 (codes "erial") refl
number_lexed numbers.ReplySerial = word_lexed 114 (codes "eply_serial") refl
number_lexed numbers.Flags = word_lexed 102 (codes "lags") refl
number_lexed numbers.BodyLength = word_lexed 98 (codes "ody_length") refl
number_lexed numbers.Args = word_lexed 97 (codes "rgs") refl
number_lexed numbers.Length = word_lexed 108 (codes "ength") refl
number_lexed (numbers.Arg n) = arg_lexed n

-- ---- tests

-- a word, an operator and a value
compared : {x m y : List ℕ} {ts us vs : List Lexeme} → IsLexed x ts → IsFree m us → ((rest : List ℕ) → ends (m ++ rest) ≡ true) → IsLexed y vs → IsLexed (x ++ m ++ y) ((ts ++ us) ++ vs)
compared {x = x} {m = m} {y = y} {ts = ts} {us = us} {vs = vs} h op e k = then_lexed (lexed_free h e op) k

kind_lexed : (e : Equality) (k : KindName) → IsLexed (kind_test_text e k) (kind_tokens e k)
kind_lexed equalities.Equal kinds.MethodCall = word_lexed 99 (codes "all") refl
kind_lexed equalities.Equal kinds.MethodReturn = word_lexed 114 (codes "eply") refl
kind_lexed equalities.Equal kinds.Error = word_lexed 101 (codes "rror") refl
kind_lexed equalities.Equal kinds.Signal = word_lexed 115 (codes "ignal") refl
kind_lexed equalities.Unequal kinds.MethodCall = record { on = λ rest us e on p. (refl, (refl, (refl, on _))) }
kind_lexed equalities.Unequal kinds.MethodReturn = record { on = λ rest us e on p. (refl, (refl, (refl, on _))) }
kind_lexed equalities.Unequal kinds.Error = record { on = λ rest us e on p. (refl, (refl, (refl, on _))) }
kind_lexed equalities.Unequal kinds.Signal = record { on = λ rest us e on p. (refl, (refl, (refl, on _))) }

has_free : IsFree (codes "has ") (word (codes "has") ∷ [])
has_free = word_free 104 (codes "as") refl

pub test_lexed : (t : Test) → IsSaid t → IsLexed (test_text t) (test_tokens t)
test_lexed (tests.Kind equality kind) h = kind_lexed equality kind
test_lexed tests.Broadcast h = word_lexed 98 (codes "roadcast") refl
test_lexed (tests.Flag flag) h = flag_lexed flag
test_lexed (tests.HasField field) h = then_lexed has_free (field_lexed field)
test_lexed (tests.HasArg n) h = then_lexed has_free (arg_lexed n)
test_lexed (tests.IsType n type) h = compared (arg_lexed n) (blank_word_free 105 (codes "s") refl) (λ rest. refl) (type_lexed type)
test_lexed (tests.Truth n equality truth) h = compared (arg_lexed n) (equality_free equality) (equality_ends equality) (truth_lexed truth)
test_lexed (tests.Text source relation text) h = compared (source_lexed source) (relation_free relation) (relation_ends relation) (free_lexed (quoted_free text))
test_lexed (tests.Within scope equality text) h = compared (scope_lexed scope) (equality_free equality) (equality_ends equality) (free_lexed (quoted_free text))
test_lexed (tests.Number source relation integer) h = compared (number_lexed source) (order_free relation) (order_ends relation) (integer_lexed integer h.1)
