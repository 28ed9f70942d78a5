-- What is true of the tests that texts spell.
use Rattle.std.proofs.Common.{◌≡◌, ℕ, ◌-◌, ◌^◌, ◌<◌, Bool, true, false, not, cond, List, [], ◌∷◌, length, drop, refl, sym, ap, ◌∙◌, subst, arith}
use Rattle.std.specs.Prelude.{Option, Some, None, option_map, Result, Ok, Err, ⊤, codes, ◌==◌, ◌&&◌, ◌||◌, nat_lt, nat_le, slice_index, if◌then◌else◌}
use Rattle.std.specs.Char.{digit_value}
use Rattle.std.specs.List.{list_all}
use Rattle.std.specs.Option.{option_and_then}
use Rattle.std.specs.Str.{bytes_eq, is_utf8}
use Rattle.std.specs.Str.Parse.{digits_value}
use Rattle.std.proofs.lemmas.Bool.{and_parts, ltb-true, leb-true, eqb-false}
use Rattle.match_key.specs.Kinds.{kind_named}
use Rattle.match_key.specs.Rows.{row_of}
use Rattle.match_key.specs.declared.arg_number.ArgNumber.{ArgNumber}
use Rattle.match_key.specs.declared.kind_name.KindName.{KindName}
use Rattle.filter.specs.declared.arg_word.ArgSuffix.{ArgSuffix}
use Rattle.filter.specs.declared.arg_word.ArgSuffix.TheVariants as suffixes
use Rattle.filter.specs.declared.error.Fault.{Fault}
use Rattle.filter.specs.declared.error.Fault.TheVariants as faults
use Rattle.filter.specs.declared.error.Fault.TheVariants.{BadValue}
use Rattle.filter.specs.declared.integer.Integer.{Integer}
use Rattle.filter.specs.declared.integer.Integer.TheVariants.{Natural, Negative}
use Rattle.filter.specs.declared.opening.Operand.{Operand}
use Rattle.filter.specs.declared.opening.Operand.TheVariants as operands
use Rattle.filter.specs.declared.opening.Opening.TheVariants.{Whole, Has, Begins}
use Rattle.filter.specs.declared.operator.Operator.{Operator}
use Rattle.filter.specs.declared.test.Equality.{Equality}
use Rattle.filter.specs.declared.test.Field.{Field}
use Rattle.filter.specs.declared.test.Flag.{Flag}
use Rattle.filter.specs.declared.test.TextType.TheVariants as types
use Rattle.filter.specs.declared.test.TextSource.{TextSource}
use Rattle.filter.specs.declared.test.TextSource.TheVariants as sources
use Rattle.filter.specs.declared.test.TextRelation.{TextRelation}
use Rattle.filter.specs.declared.test.Scope.{Scope}
use Rattle.filter.specs.declared.test.NumberSource.{NumberSource}
use Rattle.filter.specs.declared.test.NumberSource.TheVariants as numbers
use Rattle.filter.specs.declared.test.NumberRelation.{NumberRelation}
use Rattle.filter.specs.declared.test.NumberRelation.TheVariants as orders
use Rattle.filter.specs.declared.test.NumberRelation.TheVariants.{Shares}
use Rattle.filter.specs.declared.test.Test.{Test}
use Rattle.filter.specs.declared.test.Test.TheVariants as tests
use Rattle.filter.specs.declared.value.Value.{Value}
use Rattle.filter.specs.declared.value.Value.TheVariants as values
use Rattle.filter.specs.Lexis.{without_escapes}
use Rattle.filter.specs.Tokens.{Lexeme, word, quoted, sign}
use Rattle.filter.specs.Integers.{number_in, magnitude_of, negative_of, integer_of}
use Rattle.filter.specs.Values.{begins_number, begins_text, is_reserved, truth_named, text_value, integer_value, truth_or_text, value_of}
use Rattle.filter.specs.WordTables.{or_else, kind_tests, flag_words, whole_test, field_named, arg_word, operand_named, begun_by_arg, opening_or, opening_of, has_arg, has_field}
use Rattle.filter.specs.Operators.{equality_of, text_relation_of, number_relation_of}
use Rattle.filter.specs.Tests.{test_if, is_compared, text_test, is_text_of_scope, scope_test, flag_of_bit, flag_or_bits, shares_test, number_test, test_of_text, test_of_integer, test_of_truth, test_of}
use Rattle.filter.specs.FilterTree.{FilterTree, FilterTrees, test, all, any, negation, no_filters, one_more, list_of, all_of, any_of}
use Rattle.filter.specs.Grammar.{IsTest, whole, has, typed, compares, IsOne, a_test, a_not, a_group, AreOnes, last_one, more_ones, AreAlls, last_all, more_alls, IsFilter, a_list}

abbrev pub IsInteger : Integer → Type 0
IsInteger (Natural n) = n < 2 ^ 64
IsInteger (Negative n) = n < 2 ^ 63

-- the text is one that the operand takes, in UTF-8; the number is one that it takes, and fits
abbrev pub IsSaid : Test → Type 0
IsSaid (tests.Text source relation text) = (is_compared source relation text ≡ true) × (is_utf8 text ≡ true)
IsSaid (tests.Within scope equality text) = (is_text_of_scope scope text ≡ true) × (is_utf8 text ≡ true)
IsSaid (tests.Number source relation integer) = (number_test source relation integer ≡ Some (tests.Number source relation integer)) × IsInteger integer
IsSaid _ = ⊤

-- ---- tests that compare with no text and no number

abbrev is_plain : Test → Bool
is_plain (tests.Text source relation text) = false
is_plain (tests.Within scope equality text) = false
is_plain (tests.Number source relation integer) = false
is_plain _ = true

plain_said : (t : Test) → is_plain t ≡ true → IsSaid t
plain_said (tests.Text source relation text) e = absurd cc
plain_said (tests.Within scope equality text) e = absurd cc
plain_said (tests.Number source relation integer) e = absurd cc
plain_said _ e = tt

same_plain : (t u : Test) → t ≡ u → is_plain t ≡ true → IsSaid u
same_plain t u e plain = subst IsSaid e (plain_said t plain)

row_plain : (rows : List (List ℕ × Test)) (bytes : List ℕ) (t : Test) → list_all (λ row. is_plain row.1) rows ≡ true → row_of rows bytes ≡ Some t → is_plain t ≡ true
row_plain [] bytes t each e = absurd cc
row_plain (row ∷ rows) bytes t each e = go (bytes_eq bytes row.0) e (row_plain rows bytes t (and_parts (is_plain row.1) (list_all (λ row. is_plain row.1) rows) each).1)
  where
    go : (b : Bool) → cond b (Some row.1) (row_of rows bytes) ≡ Some t → (row_of rows bytes ≡ Some t → is_plain t ≡ true) → is_plain t ≡ true
    go true e more = let same : row.1 ≡ t = cc in ap is_plain (sym same) ∙ (and_parts (is_plain row.1) (list_all (λ row. is_plain row.1) rows) each).0
    go false e more = more e

whole_plain : (k : Option Test) (f : Option Flag) (t : Test) → (k ≡ Some t → is_plain t ≡ true) → or_else k (option_map tests.Flag f) ≡ Some t → is_plain t ≡ true
whole_plain (Some x) f t plain e = plain e
whole_plain None (Some flag) t plain e = let same : tests.Flag flag ≡ t = cc in ap is_plain (sym same)
whole_plain None None t plain e = absurd cc

opened_whole : (w : Option Test) (b : Bool) (o : Option Operand) (a : Result (ArgNumber × ArgSuffix) Fault) (t : Test) → opening_or (or_else (option_map Whole w) (or_else (if b then Some Has else None) (option_map Begins o))) (begun_by_arg a) ≡ Ok (Whole t) → w ≡ Some t
opened_whole (Some x) b o a t e = let same : x ≡ t = cc in ap Some same
opened_whole None true o a t e = absurd cc
opened_whole None false (Some operand) a t e = absurd cc
opened_whole None false None (Ok found) t e = absurd cc
opened_whole None false None (Err fault) t e = absurd cc

whole_said : (first : List ℕ) (t : Test) → opening_of first ≡ Ok (Whole t) → IsSaid t
whole_said first t is =
    plain_said t (whole_plain (row_of kind_tests first) (row_of flag_words first) t (row_plain kind_tests first t refl)
    (opened_whole (whole_test first) (bytes_eq first (codes "has")) (operand_named first) (arg_word first) t is))

has_said : (o : Option Field) (r : Result (ArgNumber × ArgSuffix) Fault) (t : Test) → has_field o (has_arg r) ≡ Ok t → IsSaid t
has_said (Some field) r t e = let same : tests.HasField field ≡ t = cc in same_plain (tests.HasField field) t same refl
has_said None (Ok (n, suffixes.Bare)) t e = let same : tests.HasArg n ≡ t = cc in same_plain (tests.HasArg n) t same refl
has_said None (Ok (n, suffixes.Path)) t e = absurd cc
has_said None (Ok (n, suffixes.Namespace)) t e = absurd cc
has_said None (Ok (n, suffixes.Object)) t e = absurd cc
has_said None (Ok (n, suffixes.Signature)) t e = absurd cc
has_said None (Err faults.ArgNumber) t e = absurd cc
has_said None (Err _) t e = absurd cc

-- ---- texts

utf8_of : (b : Bool) (bytes text : List ℕ) → is_utf8 bytes ≡ b → cond b (Ok (values.Text bytes)) (Err BadValue) ≡ Ok (values.Text text) → is_utf8 text ≡ true
utf8_of true bytes text is e = let same : bytes ≡ text = cc in ap is_utf8 (sym same) ∙ is
utf8_of false bytes text is e = absurd cc

text_of_word : (bytes text : List ℕ) (n : Bool) (o : Option Integer) (truth : Option Bool) → cond n (integer_value o) (truth_or_text bytes truth) ≡ Ok (values.Text text) → is_utf8 text ≡ true
text_of_word bytes text true (Some i) truth e = absurd cc
text_of_word bytes text true None truth e = absurd cc
text_of_word bytes text false o (Some x) e = absurd cc
text_of_word bytes text false o None e = go (is_reserved bytes || not (begins_text bytes)) e
  where
    go : (c : Bool) → cond c (Err BadValue) (text_value bytes) ≡ Ok (values.Text text) → is_utf8 text ≡ true
    go true e = absurd cc
    go false e = utf8_of (is_utf8 bytes) bytes text refl e

value_utf8 : (l : Lexeme) (text : List ℕ) → value_of l ≡ Ok (values.Text text) → is_utf8 text ≡ true
value_utf8 (word bytes) text e = text_of_word bytes text (begins_number bytes) (integer_of bytes) (truth_named bytes) e
value_utf8 (quoted inside) text e = utf8_of (is_utf8 (without_escapes false inside)) (without_escapes false inside) text refl e
value_utf8 (sign s) text e = absurd cc

made_if : (b : Bool) (x t : Test) → test_if b x ≡ Some t → (b ≡ true) × (x ≡ t)
made_if true x t e = (refl, cc)
made_if false x t e = absurd cc

made_by : {A : Type 0} (o : Option A) (f : A → Option Test) (t : Test) → option_and_then f o ≡ Some t → (x : A) × (f x ≡ Some t)
made_by (Some x) f t e = (x, e)
made_by None f t e = absurd cc

text_said : (source : TextSource) (o : Option TextRelation) (text : List ℕ) (t : Test) → is_utf8 text ≡ true → option_and_then (λ r. text_test source r text) o ≡ Some t → IsSaid t
text_said source o text t utf8 e =
    let m = made_by o (λ r. text_test source r text) t e in
    let f = made_if (is_compared source m.0 text) (tests.Text source m.0 text) t m.1 in
    subst IsSaid f.1 (f.0, utf8)

scope_said : (scope : Scope) (o : Option Equality) (text : List ℕ) (t : Test) → is_utf8 text ≡ true → option_and_then (λ e. scope_test scope e text) o ≡ Some t → IsSaid t
scope_said scope o text t utf8 e =
    let m = made_by o (λ e. scope_test scope e text) t e in
    let f = made_if (is_text_of_scope scope text) (tests.Within scope m.0 text) t m.1 in
    subst IsSaid f.1 (f.0, utf8)

kind_said : (o : Option Equality) (k : Option KindName) (t : Test) → option_and_then (λ e. option_map (tests.Kind e) k) o ≡ Some t → IsSaid t
kind_said (Some e) (Some k) t is = let same : tests.Kind e k ≡ t = cc in same_plain (tests.Kind e k) t same refl
kind_said (Some e) None t is = absurd cc
kind_said None k t is = absurd cc

of_text : (operand : Operand) (op : Operator) (text : List ℕ) (t : Test) → is_utf8 text ≡ true → test_of_text operand op text ≡ Some t → IsSaid t
of_text operands.Kind op text t utf8 e = kind_said (equality_of op) (kind_named text) t e
of_text (operands.Text source) op text t utf8 e = text_said source (text_relation_of op) text t utf8 e
of_text (operands.Scope scope) op text t utf8 e = scope_said scope (equality_of op) text t utf8 e
of_text (operands.Number source) op text t utf8 e = absurd cc
of_text (operands.Arg n) op text t utf8 e = text_said (sources.Arg n types.String) (text_relation_of op) text t utf8 e

-- ---- numbers

number_fits : (base : ℕ) (digits : List ℕ) (n : ℕ) → number_in base digits ≡ Some n → n < 2 ^ 64
unfolding number_in
number_fits base digits n e = go (not (length digits == 0) && list_all (λ d. nat_lt (digit_value d) base) digits) (nat_lt (digits_value base digits) (2 ^ 64)) refl e
  where
    go : (b c : Bool) → nat_lt (digits_value base digits) (2 ^ 64) ≡ c → cond (b && c) (Some (digits_value base digits)) None ≡ Some n → n < 2 ^ 64
    go true true is e = let same : digits_value base digits ≡ n = cc in let small = ltb-true (digits_value base digits) (2 ^ 64) is in omega arith
    go true false is e = absurd cc
    go false c is e = absurd cc

magnitude_fits : (bytes : List ℕ) (n : ℕ) → magnitude_of bytes ≡ Some n → n < 2 ^ 64
magnitude_fits bytes n e = go (slice_index bytes 0 == 48 && slice_index bytes 1 == 120) e
  where
    go : (b : Bool) → cond b (number_in 16 (drop 2 bytes)) (number_in 10 bytes) ≡ Some n → n < 2 ^ 64
    go true e = number_fits 16 (drop 2 bytes) n e
    go false e = number_fits 10 bytes n e

natural_fits : (o : Option ℕ) (i : Integer) → ((n : ℕ) → o ≡ Some n → n < 2 ^ 64) → option_map Natural o ≡ Some i → IsInteger i
natural_fits (Some n) i fits e = let same : Natural n ≡ i = cc in subst IsInteger same (fits n refl)
natural_fits None i fits e = absurd cc

negative_fits : (n : ℕ) (i : Integer) → negative_of n ≡ Some i → IsInteger i
negative_fits n i e = go (n == 0) (nat_le n (2 ^ 63)) refl refl e
  where
    go : (b c : Bool) → (n == 0) ≡ b → nat_le n (2 ^ 63) ≡ c → cond b (Some (Natural 0)) (cond c (Some (Negative (n - 1))) None) ≡ Some i → IsInteger i
    go true c is small e = let same : Natural 0 ≡ i = cc in let fits : IsInteger (Natural 0) = omega arith in subst IsInteger same fits
    go false true is small e =
        let same : Negative (n - 1) ≡ i = cc in
        let some = eqb-false n 0 is in
        let few = leb-true n (2 ^ 63) small in
        let fits : IsInteger (Negative (n - 1)) = omega arith in subst IsInteger same fits
    go false false is small e = absurd cc

integer_fits : (bytes : List ℕ) (i : Integer) → integer_of bytes ≡ Some i → IsInteger i
integer_fits [] i e = natural_fits (magnitude_of []) i (magnitude_fits []) e
integer_fits (b ∷ bs) i e = go (b == 45) (magnitude_of bs) e
  where
    go : (c : Bool) (m : Option ℕ) → cond c (option_and_then negative_of m) (option_map Natural (magnitude_of (b ∷ bs))) ≡ Some i → IsInteger i
    go true (Some n) e = negative_fits n i e
    go true None e = absurd cc
    go false m e = natural_fits (magnitude_of (b ∷ bs)) i (magnitude_fits (b ∷ bs)) e

no_integer : (b : Bool) (bytes : List ℕ) (i : Integer) → cond b (Ok (values.Text bytes)) (Err BadValue) ≡ Ok (values.Integer i) → ⊥
no_integer true bytes i e = absurd cc
no_integer false bytes i e = absurd cc

no_integer_word : (bytes : List ℕ) (i : Integer) (truth : Option Bool) → truth_or_text bytes truth ≡ Ok (values.Integer i) → ⊥
no_integer_word bytes i (Some x) e = absurd cc
no_integer_word bytes i None e = go (is_reserved bytes || not (begins_text bytes)) e
  where
    go : (c : Bool) → cond c (Err BadValue) (text_value bytes) ≡ Ok (values.Integer i) → ⊥
    go true e = absurd cc
    go false e = no_integer (is_utf8 bytes) bytes i e

integer_of_word : (bytes : List ℕ) (i : Integer) (n : Bool) (o : Option Integer) → cond n (integer_value o) (truth_or_text bytes (truth_named bytes)) ≡ Ok (values.Integer i) → o ≡ Some i
integer_of_word bytes i true (Some x) e = let same : x ≡ i = cc in ap Some same
integer_of_word bytes i true None e = absurd cc
integer_of_word bytes i false o e = absurd (no_integer_word bytes i (truth_named bytes) e)

value_fits : (l : Lexeme) (i : Integer) → value_of l ≡ Ok (values.Integer i) → IsInteger i
value_fits (word bytes) i e = integer_fits bytes i (integer_of_word bytes i (begins_number bytes) (integer_of bytes) e)
value_fits (quoted inside) i e = absurd (no_integer (is_utf8 (without_escapes false inside)) (without_escapes false inside) i e)
value_fits (sign s) i e = absurd cc

-- `flags & 1`, 2 and 4 are tests of flags
flags_said : (bits : ℕ) (o : Option Flag) (t : Test) → flag_of_bit bits ≡ o → bits < 2 ^ 64 → Some (flag_or_bits bits o) ≡ Some t → IsSaid t
flags_said bits (Some flag) t is fits e = let same : tests.Flag flag ≡ t = cc in same_plain (tests.Flag flag) t same refl
flags_said bits None t is fits e =
    let same : tests.Number numbers.Flags Shares (Natural bits) ≡ t = cc in
    let again : number_test numbers.Flags Shares (Natural bits) ≡ Some (tests.Number numbers.Flags Shares (Natural bits)) = ap (λ o. Some (flag_or_bits bits o)) is in
    subst IsSaid same (again, fits)

same_number : (source : NumberSource) (relation : NumberRelation) (i : Integer) (t : Test) → IsInteger i → number_test source relation i ≡ Some (tests.Number source relation i) → Some (tests.Number source relation i) ≡ Some t → IsSaid t
same_number source relation i t fits again e = let same : tests.Number source relation i ≡ t = cc in subst IsSaid same (again, fits)

shares_said : (source : NumberSource) (i : Integer) (t : Test) → IsInteger i → shares_test source i ≡ Some t → IsSaid t
shares_said source (Negative n) t fits e = absurd cc
shares_said numbers.Flags (Natural bits) t fits e = flags_said bits (flag_of_bit bits) t refl fits e
shares_said numbers.Serial (Natural bits) t fits e = same_number numbers.Serial Shares (Natural bits) t fits refl e
shares_said numbers.ReplySerial (Natural bits) t fits e = same_number numbers.ReplySerial Shares (Natural bits) t fits refl e
shares_said numbers.BodyLength (Natural bits) t fits e = same_number numbers.BodyLength Shares (Natural bits) t fits refl e
shares_said numbers.Args (Natural bits) t fits e = same_number numbers.Args Shares (Natural bits) t fits refl e
shares_said numbers.Length (Natural bits) t fits e = same_number numbers.Length Shares (Natural bits) t fits refl e
shares_said (numbers.Arg n) (Natural bits) t fits e = same_number (numbers.Arg n) Shares (Natural bits) t fits refl e

number_said : (source : NumberSource) (relation : NumberRelation) (i : Integer) (t : Test) → IsInteger i → number_test source relation i ≡ Some t → IsSaid t
number_said source Shares i t fits e = shares_said source i t fits e
number_said source orders.Equal i t fits e = same_number source orders.Equal i t fits refl e
number_said source orders.Unequal i t fits e = same_number source orders.Unequal i t fits refl e
number_said source orders.Less i t fits e = same_number source orders.Less i t fits refl e
number_said source orders.AtMost i t fits e = same_number source orders.AtMost i t fits refl e
number_said source orders.Greater i t fits e = same_number source orders.Greater i t fits refl e
number_said source orders.AtLeast i t fits e = same_number source orders.AtLeast i t fits refl e

of_integer : (operand : Operand) (op : Operator) (i : Integer) (t : Test) → IsInteger i → test_of_integer operand op i ≡ Some t → IsSaid t
of_integer (operands.Number source) op i t fits e = let m = made_by (number_relation_of op) (λ r. number_test source r i) t e in number_said source m.0 i t fits m.1
of_integer (operands.Arg n) op i t fits e = let m = made_by (number_relation_of op) (λ r. number_test (numbers.Arg n) r i) t e in number_said (numbers.Arg n) m.0 i t fits m.1
of_integer _ op i t fits e = absurd cc

of_truth : (operand : Operand) (op : Operator) (truth : Bool) (t : Test) → test_of_truth operand op truth ≡ Some t → IsSaid t
of_truth (operands.Arg n) op truth t e = let m = made_by (equality_of op) (λ equality. Some (tests.Truth n equality truth)) t e in let same : tests.Truth n m.0 truth ≡ t = let f = m.1 in cc in same_plain (tests.Truth n m.0 truth) t same refl
of_truth _ op truth t e = absurd cc

of_value : (operand : Operand) (op : Operator) (l : Lexeme) (value : Value) (t : Test) → value_of l ≡ Ok value → test_of operand op value ≡ Some t → IsSaid t
of_value operand op l (values.Text text) t v e = of_text operand op text t (value_utf8 l text v) e
of_value operand op l (values.Integer integer) t v e = of_integer operand op integer t (value_fits l integer v) e
of_value operand op l (values.Truth truth) t v e = of_truth operand op truth t e

-- what is true of a test that tokens spell
pub test_said : {ts : List Lexeme} {t : Test} → IsTest ts t → IsSaid t
test_said (whole {t} first is) = whole_said first t is
test_said (has {t} first field is of) = has_said (field_named field) (arg_word field) t of
test_said (typed first code op n type is o of) = tt
test_said (compares {t} first op it operand operator value is o fits v of) = of_value operand operator it value t v of

-- ---- all tests of a filter

abbrev mutual
  pub AreSaid : FilterTree → Type 0
  AreSaid (test t) = IsSaid t
  AreSaid (all fs) = AreAllSaid fs
  AreSaid (any fs) = AreAllSaid fs
  AreSaid (negation f) = AreSaid f

  pub AreAllSaid : FilterTrees → Type 0
  AreAllSaid no_filters = ⊤
  AreAllSaid (one_more f fs) = AreSaid f × AreAllSaid fs

all_of_said : (fs : List FilterTree) → AreAllSaid (list_of fs) → AreSaid (all_of fs)
all_of_said [] h = h
all_of_said (f ∷ []) h = h.0
all_of_said (f ∷ g ∷ fs) h = h

any_of_said : (fs : List FilterTree) → AreAllSaid (list_of fs) → AreSaid (any_of fs)
any_of_said [] h = h
any_of_said (f ∷ []) h = h.0
any_of_said (f ∷ g ∷ fs) h = h

mutual
  one_said : {n : ℕ} {ts : List Lexeme} {f : FilterTree} → IsOne n ts f → AreSaid f
  one_said (a_test d) = test_said d
  one_said (a_not few d) = one_said d
  one_said (a_group few d) = filter_said d

  ones_said : {n : ℕ} {ts : List Lexeme} {fs : List FilterTree} → AreOnes n ts fs → AreAllSaid (list_of fs)
  ones_said (last_one d) = (one_said d, tt)
  ones_said (more_ones d ds) = (one_said d, ones_said ds)

  alls_said : {n : ℕ} {ts : List Lexeme} {fs : List FilterTree} → AreAlls n ts fs → AreAllSaid (list_of fs)
  alls_said (last_all d) = (all_of_said _ (ones_said d), tt)
  alls_said (more_alls d ds) = (all_of_said _ (ones_said d), alls_said ds)

  pub filter_said : {n : ℕ} {ts : List Lexeme} {f : FilterTree} → IsFilter n ts f → AreSaid f
  filter_said (a_list d) = any_of_said _ (alls_said d)
