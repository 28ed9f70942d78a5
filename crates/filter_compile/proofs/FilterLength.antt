-- A filter's program, with an island of its own for each far target, isn't longer than the filter weighs.
use Rattle.std.proofs.Common.{◌≡◌, ℕ, zero, suc, ◌+◌, ◌-◌, ◌*◌, ◌/◌, ◌≤◌, Bool, true, false, List, [], ◌∷◌, length, inl, inr, arith}
use Rattle.std.specs.Prelude.{◌%◌, ◌^◌, ◌==◌, if◌then◌else◌, nat_lt}
use Rattle.std.specs.Str.{bytes_eq}
use Rattle.std.proofs.lemmas.Bool.{cases_Bool, ltb-true}
use Rattle.bpf_code.specs.declared.instruction.Ins.{Ins}
use Rattle.bpf_code.specs.declared.operation.Arithmetic.TheVariants.{Add, Sub}
use Rattle.bpf_code.specs.declared.operation.Op.TheVariants.{Compute, LoadLength}
use Rattle.bpf_code.specs.declared.operation.Operand.TheVariants.{Constant, Index}
use Rattle.bpf_code.specs.declared.operation.Test.{Test}
use Rattle.bpf_code.specs.declared.operation.Test.TheVariants.{Equal, Above, AtLeast, SharesBit}
use Rattle.bpf_code.specs.declared.operation.Width.{Width}
use Rattle.bpf_code.specs.declared.operation.Width.TheVariants.{Word, Half, Byte}
use Rattle.jump_islands.specs.PlainLength.{is_far, count, span, sizes_of, plain_length}
use Rattle.jump_islands.specs.Source.{jump_over}
use Rattle.rule_compile.specs.Code.{plain, image_word, load_indexed, index_from_a, branch}
use Rattle.match_rule.specs.Bytes.{ends_with}
use Rattle.rule_compile.specs.Folders.{parts_of}
use Rattle.rule_compile.specs.RuleCode.{verdicts}
use Rattle.filter.specs.declared.integer.Integer.{Integer}
use Rattle.filter.specs.declared.integer.Integer.TheVariants.{Natural, Negative}
use Rattle.filter.specs.declared.test.Equality.{Equality}
use Rattle.filter.specs.declared.test.NumberRelation.{NumberRelation}
use Rattle.filter.specs.declared.test.NumberSource.{NumberSource}
use Rattle.filter.specs.declared.test.NumberSource.TheVariants as sources
use Rattle.filter.specs.declared.test.Scope.{Scope}
use Rattle.filter.specs.declared.test.Scope.TheVariants.{PathNamespace, ArgNamespace, ArgPath}
use Rattle.filter.specs.declared.test.Test as filters
use Rattle.filter.specs.declared.test.Test.TheVariants as tests
use Rattle.filter.specs.declared.test.TextRelation.{TextRelation}
use Rattle.filter.specs.declared.test.TextRelation.TheVariants as relations
use Rattle.filter.specs.declared.test.TextSource.{TextSource}
use Rattle.filter.specs.declared.test.TextSource.TheVariants as texts
use Rattle.filter.specs.FilterTree.{FilterTree, FilterTrees, test as one_test, all, any, negation, no_filters, one_more}
use Rattle.filter.specs.Weights.{asks_owner, text_weight, slashes, scope_weight, number_weight, test_weight, tests_weight, sum_weight, weight_of}
use Rattle.filter_compile.specs.declared.exits.Exits.{Exits}
use Rattle.filter_compile.specs.Entered.{Entered}
use Rattle.filter_compile.specs.FilterCode.{filter_code, all_code, any_code, from_entry, last_exits, program_code}
use Rattle.filter_compile.specs.Names.{slot_in}
use Rattle.filter_compile.specs.Pieces.{Piece, over, turned, holds_next, fails_next, both, fork, word_test, indexed_test, has_len, from_start, index_back, from_back, unit_len, unit_number, same_unit, same_units, same_by, same_bytes, len_then, front, ends, end_or, bytes_before, in_namespace, part_test, inner_part, follow_parts, is_nested}
use Rattle.match_key.specs.ArgNumber.{number_of_arg}
use Rattle.match_key.specs.Kinds.{kind_meant}
use Rattle.message_view.specs.Header.{kind_byte}
use Rattle.summary.specs.Layout.{kind_place, text_place, argument_place, ownership_place}
use Rattle.filter_compile.specs.Holds.{flag_bit, type_code, text_code}
use Rattle.filter_compile.specs.PieceOfTest.{number_code, test_code}
use Rattle.filter_compile.specs.TestCode.{view_field, field_place, exits_for, truth_word, truth_code, words_at, has_text, text_relates, owner_code, text_code_of, number_relates, word_number, compare, compare_natural, comparison_of, equality_of, path_within, scope_words, scope_code}
use Rattle.rule_compile.proofs.Lengths.{total, total_is, total_cons, branch_total, verdicts_total, one_far, index_total, choice_total, weight_of_parts, parts_weight}
use Rattle.filter_compile.proofs.NearLength.{arg_number_total}

-- ---- single instructions

few : (far : Bool) → count far ≤ 1
few true = omega arith
few false = omega arith

fork_total : (test : Test) (k : ℕ) (exits : Exits) (rest : List Ins) → total (fork test k exits rest) ≤ 3 + total rest
fork_total test k exits rest =
    let hit = over rest exits.holds in
    let miss = over rest exits.fails in
    omega (arith, branch_total test k hit miss rest, few (is_far (span hit (sizes_of rest)) (span miss (sizes_of rest))), few (is_far (span miss (sizes_of rest)) (span hit (sizes_of rest))))

-- where one of the exits is the next instruction
near_total : (test : Test) (k n : ℕ) (rest : List Ins) → (total (branch test k 0 n ∷ rest) ≤ 2 + total rest) × (total (branch test k n 0 ∷ rest) ≤ 2 + total rest)
near_total test k n rest = (
  omega (arith, one_far (span n (sizes_of rest)), branch_total test k 0 n rest),
  omega (arith, one_far (span n (sizes_of rest)), branch_total test k n 0 rest),
)

none_left : (rest : List Ins) → over rest (length rest) ≡ 0
unfolding over
none_left rest = omega arith

holds_total : (test : Test) (k fails : ℕ) (rest : List Ins) → total (fork test k (record { holds = length rest; fails = fails }) rest) ≤ 2 + total rest
holds_total test k fails rest = rw (none_left rest) ((near_total test k (over rest fails) rest).0)

fails_total : (test : Test) (k holds : ℕ) (rest : List Ins) → total (fork test k (record { holds = holds; fails = length rest }) rest) ≤ 2 + total rest
fails_total test k holds rest = rw (none_left rest) ((near_total test k (over rest holds) rest).1)

-- ---- a load, and a comparison

word_total : (at : ℕ) (test : Test) (k : ℕ) (exits : Exits) (rest : List Ins) → total (word_test at test k exits rest) ≤ 4 + total rest
word_total at test k exits rest = omega (arith, total_cons (image_word at) (fork test k exits rest), fork_total test k exits rest)

word_holds : (at : ℕ) (test : Test) (k fails : ℕ) (rest : List Ins) → total (word_test at test k (record { holds = length rest; fails = fails }) rest) ≤ 3 + total rest
word_holds at test k fails rest =
    omega (arith, total_cons (image_word at) (fork test k (record { holds = length rest; fails = fails }) rest), holds_total test k fails rest)

word_fails : (at : ℕ) (test : Test) (k holds : ℕ) (rest : List Ins) → total (word_test at test k (record { holds = holds; fails = length rest }) rest) ≤ 3 + total rest
word_fails at test k holds rest =
    omega (arith, total_cons (image_word at) (fork test k (record { holds = holds; fails = length rest }) rest), fails_total test k holds rest)

indexed_total : (width : Width) (at : ℕ) (test : Test) (k : ℕ) (exits : Exits) (rest : List Ins) → total (indexed_test width at test k exits rest) ≤ 4 + total rest
indexed_total Byte at test k exits rest = omega (arith, total_cons (load_indexed Byte at) (fork test k exits rest), fork_total test k exits rest)
indexed_total Half at test k exits rest = omega (arith, total_cons (load_indexed Half at) (fork test k exits rest), fork_total test k exits rest)
indexed_total Word at test k exits rest = omega (arith, total_cons (load_indexed Word at) (fork test k exits rest), fork_total test k exits rest)

indexed_holds : (width : Width) (at : ℕ) (test : Test) (k fails : ℕ) (rest : List Ins) → total (indexed_test width at test k (record { holds = length rest; fails = fails }) rest) ≤ 3 + total rest
indexed_holds Byte at test k fails rest = omega (arith, total_cons (load_indexed Byte at) (fork test k (record { holds = length rest; fails = fails }) rest), holds_total test k fails rest)
indexed_holds Half at test k fails rest = omega (arith, total_cons (load_indexed Half at) (fork test k (record { holds = length rest; fails = fails }) rest), holds_total test k fails rest)
indexed_holds Word at test k fails rest = omega (arith, total_cons (load_indexed Word at) (fork test k (record { holds = length rest; fails = fails }) rest), holds_total test k fails rest)

-- ---- texts

units_total : (width : Width) (at : ℕ) (value : List ℕ) (n fails : ℕ) (rest : List Ins) → total (same_units width at value n fails rest) ≤ 3 * n + total rest
units_total width at value zero fails rest = omega arith
units_total width at value (suc n) fails rest =
    let i = unit_len width * n in
    let here = same_unit width at value i (record { holds = length rest; fails = fails }) rest in
    omega (arith, units_total width at value n fails here, indexed_holds width (at + i) Equal (unit_number width value i) fails rest)

by_total : (width : Width) (at : ℕ) (value : List ℕ) (exits : Exits) (rest : List Ins) → total (same_by width at value exits rest) ≤ 3 * ((length value - 1) / unit_len width) + 4 + total rest
by_total width at value exits rest =
    let last = length value - unit_len width in
    let n = (length value - 1) / unit_len width in
    omega (arith, units_total width at value n exits.fails (same_unit width at value last exits rest), indexed_total width (at + last) Equal (unit_number width value last) exits rest)

bytes_total : (at : ℕ) (value : List ℕ) (exits : Exits) (rest : List Ins) → total (same_bytes at value exits rest) ≤ length value + 4 + total rest
bytes_total at value exits rest = elim (cases_Bool (nat_lt (length value) 2)) [
  | inl one ↦ (let h = ltb-true (length value) 2 one in rw one (omega (arith, h, by_total Byte at value exits rest)))
  | inr more ↦ elim (cases_Bool (nat_lt (length value) 4)) [
    | inl two ↦ (let h = ltb-true (length value) 4 two in rw (more, two) (omega (arith, h, by_total Half at value exits rest)))
    | inr many ↦ rw (more, many) (omega (arith, by_total Word at value exits rest))
  ]
]

back_total : (n at : ℕ) (rest : List Ins) → total (index_back n at rest) ≡ 6 + total rest
back_total n at rest =
    let add = plain (Compute Add Index) 0 ∷ index_from_a ∷ rest in
    let sub = plain (Compute Sub Constant) n ∷ index_from_a ∷ image_word at ∷ add in
    omega (arith, total_cons (image_word (at + 4)) sub, total_cons (plain (Compute Sub Constant) n) (index_from_a ∷ image_word at ∷ add), index_total at rest, total_cons index_from_a (image_word at ∷ add), total_cons (image_word at) add, total_cons (plain (Compute Add Index) 0) (index_from_a ∷ rest), total_cons index_from_a rest)

-- a choice of pieces
piece_total : (b : Bool) (n : ℕ) (f g : Piece) (exits : Exits) (rest : List Ins) → total (f exits rest) ≤ n → total (g exits rest) ≤ n → total ((if b then f else g) exits rest) ≤ n
piece_total true n f g exits rest h m = h
piece_total false n f g exits rest h m = m

len_then_total : (test : Test) (value : List ℕ) (at : ℕ) (f : Piece) (n : ℕ) (exits : Exits) (rest : List Ins) → 1 ≤ n → total (f exits rest) ≤ n + total rest → total (len_then test value at f exits rest) ≤ 3 + n + total rest
len_then_total test value at f n exits rest some h =
    piece_total (length value == 0) (3 + n + total rest) (has_len test 0 at) (both (has_len test (length value) at) f) exits rest (omega (arith, word_total (at + 4) test 0 exits rest, some)) (omega (arith, h, word_holds (at + 4) test (length value) exits.fails (f exits rest)))

front_total : (test : Test) (value : List ℕ) (at : ℕ) (exits : Exits) (rest : List Ins) → total (front test value at exits rest) ≤ length value + 9 + total rest
front_total test value at exits rest =
    omega (arith, len_then_total test value at (from_start at (same_bytes 0 value)) (length value + 6) exits rest (omega arith) (omega (arith, index_total at (same_bytes 0 value exits rest), bytes_total 0 value exits rest)))

ends_total : (value : List ℕ) (at : ℕ) (exits : Exits) (rest : List Ins) → total (ends value at exits rest) ≤ length value + 13 + total rest
ends_total value at exits rest =
    omega (arith, len_then_total AtLeast value at (from_back (length value) at (same_bytes 0 value)) (length value + 10) exits rest (omega arith) (omega (arith, back_total (length value) at (same_bytes 0 value exits rest), bytes_total 0 value exits rest)))

relates_total : (relation : TextRelation) (value : List ℕ) (at : ℕ) (exits : Exits) (rest : List Ins) → total (text_relates relation value at exits rest) ≤ length value + 13 + total rest
relates_total relations.Equal value at exits rest = omega (arith, front_total Equal value at exits rest)
relates_total relations.Unequal value at exits rest = omega (arith, front_total Equal value at (turned exits) rest)
relates_total relations.Begins value at exits rest = omega (arith, front_total AtLeast value at exits rest)
relates_total relations.Ends value at exits rest = ends_total value at exits rest

source_total : (source : TextSource) (f : Piece) (exits : Exits) (rest : List Ins) → total (both (has_text source) f exits rest) ≤ 3 + total (f exits rest)
source_total (texts.Field field) f exits rest = word_holds (text_place (view_field field)) Above 0 exits.fails (f exits rest)
source_total (texts.Arg n type) f exits rest = word_holds (argument_place (number_of_arg n)) Equal (text_code type) exits.fails (f exits rest)

owner_total : (relation : TextRelation) (slot : ℕ) (exits : Exits) (rest : List Ins) → total (owner_code relation slot exits rest) ≤ 8 + total rest
owner_total relations.Unequal slot exits rest =
    let at = ownership_place slot in
    let bit = 2 ^ (slot % 32) in
    omega (arith, word_holds 64 Above 0 exits.fails (word_test at SharesBit bit (turned exits) rest), word_total at SharesBit bit (turned exits) rest)
owner_total _ slot exits rest = omega (arith, word_total (ownership_place slot) SharesBit (2 ^ (slot % 32)) exits rest)

text_total : (names : List (List ℕ)) (source : TextSource) (relation : TextRelation) (value : List ℕ) (exits : Exits) (rest : List Ins) → total (text_code_of names source relation value exits rest) ≤ text_weight source relation value + total rest
text_total names source relation value exits rest = elim (cases_Bool (asks_owner source relation value)) [
  | inl asks ↦ rw asks (owner_total relation (slot_in names value) exits rest)
  | inr other ↦ rw other (omega (arith, source_total source (text_relates relation value (words_at source)) exits rest, relates_total relation value (words_at source) exits rest))
]

-- ---- truth, numbers and scopes

truth_word_total : (truth : Bool) (exits : Exits) (rest : List Ins) → total (truth_word truth exits rest) ≤ 4 + total rest
truth_word_total true exits rest = indexed_total Word 0 Above 0 exits rest
truth_word_total false exits rest = indexed_total Word 0 Equal 0 exits rest

truth_total : (n : ℕ) (equality : Equality) (truth : Bool) (exits : Exits) (rest : List Ins) → total (truth_code n equality truth exits rest) ≤ 9 + total rest
truth_total n equality truth exits rest =
    let word = truth_word truth (exits_for equality exits) rest in
    let at = argument_place n in
    omega (arith, word_holds at Equal 98 exits.fails (image_word (at + 4) ∷ index_from_a ∷ word), index_total (at + 4) word, truth_word_total truth (exits_for equality exits) rest)

natural_total : (test : Test) (n : ℕ) (exits : Exits) (rest : List Ins) → total (compare_natural test n exits rest) ≤ 3 + total rest
natural_total SharesBit n exits rest = fork_total SharesBit (n % 2 ^ 32) exits rest
natural_total test n exits rest =
    piece_total (nat_lt n (2 ^ 32)) (3 + total rest) (fork test n) (fork Above 0xffffffff) exits rest (fork_total test n exits rest) (fork_total Above 0xffffffff exits rest)

compare_total : (test : Test) (value : Integer) (exits : Exits) (rest : List Ins) → total (compare test value exits rest) ≤ 3 + total rest
compare_total test (Natural n) exits rest = natural_total test n exits rest
compare_total Above (Negative n) exits rest = fork_total AtLeast 0 exits rest
compare_total AtLeast (Negative n) exits rest = fork_total AtLeast 0 exits rest
compare_total test (Negative n) exits rest = fork_total Above 0xffffffff exits rest

number_relates_total : (relation : NumberRelation) (value : Integer) (exits : Exits) (rest : List Ins) → total (number_relates relation value exits rest) ≤ 3 + total rest
number_relates_total relation value exits rest = compare_total (comparison_of relation) value (exits_for (equality_of relation) exits) rest

word_number_total : (at : ℕ) (relation : NumberRelation) (value : Integer) (exits : Exits) (rest : List Ins) → total (word_number at relation value exits rest) ≤ 4 + total rest
word_number_total at relation value exits rest =
    omega (arith, total_cons (image_word at) (number_relates relation value exits rest), number_relates_total relation value exits rest)

number_total : (source : NumberSource) (relation : NumberRelation) (value : Integer) (exits : Exits) (rest : List Ins) → total (number_code source relation value exits rest) ≤ number_weight source relation + total rest
number_total sources.Serial relation value exits rest = omega (arith, word_number_total 968 relation value exits rest)
number_total sources.ReplySerial relation value exits rest =
    omega (arith, word_holds 972 Above 0 exits.fails (word_number 972 relation value exits rest), word_number_total 972 relation value exits rest)
number_total sources.Flags relation value exits rest = omega (arith, word_number_total 8 relation value exits rest)
number_total sources.BodyLength relation value exits rest = omega (arith, word_number_total 16 relation value exits rest)
number_total sources.Args relation value exits rest = omega (arith, word_number_total 20 relation value exits rest)
number_total sources.Length relation value exits rest =
    let compared = number_relates relation value exits rest in
    omega (arith, total_cons (plain LoadLength 0) (plain (Compute Sub Constant) 976 ∷ compared), total_cons (plain (Compute Sub Constant) 976) compared, number_relates_total relation value exits rest)
number_total (sources.Arg n) relation value exits rest = arg_number_total (number_of_arg n) relation value exits rest

before_total : (value : List ℕ) (exits : Exits) (rest : List Ins) → total (bytes_before value exits rest) ≤ length value + 4 + total rest
before_total value exits rest =
    choice_total (length value == 0) (length value + 4 + total rest) rest (same_bytes 0 value (holds_next exits rest) rest) (omega arith) (bytes_total 0 value (holds_next exits rest) rest)

namespace_total : (separator : ℕ) (value : List ℕ) (at : ℕ) (exits : Exits) (rest : List Ins) → total (in_namespace separator value at exits rest) ≤ length value + 16 + total rest
namespace_total separator value at exits rest =
    let n = length value in
    let byte = indexed_test Byte n Equal separator exits rest in
    let last = end_or separator n at exits rest in
    let bytes = bytes_before value exits last in
    omega (arith, word_holds (at + 4) AtLeast n exits.fails (image_word at ∷ index_from_a ∷ bytes), index_total at bytes, before_total value exits last, word_fails (at + 4) Equal n exits.holds byte, indexed_total Byte n Equal separator exits rest)

within_total : (value : List ℕ) (at : ℕ) (exits : Exits) (rest : List Ins) → total (path_within value at exits rest) ≤ length value + 16 + total rest
within_total value at exits rest =
    piece_total (bytes_eq value (47 ∷ [])) (length value + 16 + total rest) (has_len AtLeast 0 at) (in_namespace 47 value at) exits rest (omega (arith, word_total (at + 4) AtLeast 0 exits rest)) (namespace_total 47 value at exits rest)

part_total : (test : Test) (at place : ℕ) (part : List ℕ) (exits : Exits) (rest : List Ins) → total (part_test test at place part exits rest) ≤ length part + 7 + total rest
part_total test at place part exits rest =
    omega (arith, word_holds (at + 4) test (place + length part) exits.fails (same_bytes place part exits rest), bytes_total place part exits rest)

inner_total : (at place : ℕ) (part : List ℕ) (exits : Exits) (later : List Ins) → total (inner_part at place part exits later) ≤ length part + 10 + total later
inner_total at place part exits later =
    let ended = has_len Equal (place + length part) at (fails_next exits later) later in
    omega (arith, part_total AtLeast at place part (holds_next exits ended) ended, word_fails (at + 4) Equal (place + length part) exits.holds later)

follow_total : (at place : ℕ) (parts : List (List ℕ)) (exits : Exits) (rest : List Ins) → total (follow_parts at place parts exits rest) ≤ weight_of_parts 10 parts + total rest
follow_total at place [] exits rest = omega arith
follow_total at place (part ∷ []) exits rest =
    choice_total (ends_with 47 part) (weight_of_parts 10 (part ∷ []) + total rest) (part_test AtLeast at place part exits rest) (part_test Equal at place part exits rest) (omega (arith, part_total AtLeast at place part exits rest)) (omega (arith, part_total Equal at place part exits rest))
follow_total at place (part ∷ next ∷ more) exits rest =
    omega (arith, inner_total at place part exits (follow_parts at (place + length part) (next ∷ more) exits rest), follow_total at (place + length part) (next ∷ more) exits rest)

nested_total : (value : List ℕ) (at : ℕ) (exits : Exits) (rest : List Ins) → total (is_nested value at exits rest) ≤ length value + 10 * slashes value + 12 + total rest
nested_total value at exits rest =
    piece_total (length value == 0) (length value + 10 * slashes value + 12 + total rest) (has_len Equal 0 at) (from_start at (follow_parts at 0 (parts_of value))) exits rest (omega (arith, word_total (at + 4) Equal 0 exits rest)) (omega (arith, index_total at (follow_parts at 0 (parts_of value) exits rest), follow_total at 0 (parts_of value) exits rest, parts_weight 10 value))

scope_total : (scope : Scope) (equality : Equality) (value : List ℕ) (exits : Exits) (rest : List Ins) → total (scope_code scope equality value exits rest) ≤ scope_weight scope value + total rest
scope_total PathNamespace equality value exits rest =
    let chosen = exits_for equality exits in
    omega (arith, word_holds 24 Above 0 exits.fails (path_within value 24 chosen rest), within_total value 24 chosen rest)
scope_total (ArgNamespace n) equality value exits rest =
    let chosen = exits_for equality exits in
    let at = scope_words (ArgNamespace n) in
    omega (arith, word_holds (argument_place (number_of_arg n)) Equal 115 exits.fails (in_namespace 46 value at chosen rest), namespace_total 46 value at chosen rest)
scope_total (ArgPath n) equality value exits rest =
    let chosen = exits_for equality exits in
    let at = scope_words (ArgPath n) in
    let place = argument_place (number_of_arg n) in
    let nested = is_nested value at chosen rest in
    let path = word_test place Equal 111 (holds_next exits nested) nested in
    omega (arith, nested_total value at chosen rest, word_holds place Equal 111 exits.fails nested, word_fails place Equal 115 (length nested) path)

-- ---- tests and filters

test_total : (names : List (List ℕ)) (t : filters.Test) (exits : Exits) (rest : List Ins) → total (test_code names t exits rest) ≤ test_weight t + total rest
test_total names (tests.Kind equality kind) exits rest = omega (arith, word_total kind_place Equal (kind_byte (kind_meant kind)) (exits_for equality exits) rest)
test_total names tests.Broadcast exits rest = omega (arith, word_total 56 Equal 0 exits rest)
test_total names (tests.Flag flag) exits rest = omega (arith, word_total 8 SharesBit (flag_bit flag) exits rest)
test_total names (tests.HasField field) exits rest = omega (arith, word_total (field_place field) Above 0 exits rest)
test_total names (tests.HasArg n) exits rest = omega (arith, word_total 20 Above (number_of_arg n) exits rest)
test_total names (tests.IsType n type) exits rest = omega (arith, word_total (argument_place (number_of_arg n)) Equal (type_code type) exits rest)
test_total names (tests.Truth n equality truth) exits rest = omega (arith, truth_total (number_of_arg n) equality truth exits rest)
test_total names (tests.Text source relation value) exits rest = text_total names source relation value exits rest
test_total names (tests.Within scope equality value) exits rest = scope_total scope equality value exits rest
test_total names (tests.Number source relation value) exits rest = number_total source relation value exits rest

mutual
  filter_total : (names : List (List ℕ)) (f : FilterTree) (exits : Exits) (rest : List Ins) → total (filter_code names f exits rest).code ≤ tests_weight f + total rest
  filter_total names (one_test t) exits rest = test_total names t exits rest
  filter_total names (all fs) exits rest = each_total names fs exits.fails (record { code = rest; entry = exits.holds })
  filter_total names (any fs) exits rest = one_total names fs exits.holds (record { code = rest; entry = exits.fails })
  filter_total names (negation f) exits rest = filter_total names f (turned exits) rest

  each_total : (names : List (List ℕ)) (fs : FilterTrees) (fails : ℕ) (end : Entered) → total (all_code names fs fails end).code ≤ sum_weight fs + total end.code
  each_total names no_filters fails end = omega arith
  each_total names (one_more f fs) fails end =
      let later = all_code names fs fails end in
      omega (arith, filter_total names f (record { holds = later.entry; fails = fails }) later.code, each_total names fs fails end)

  one_total : (names : List (List ℕ)) (fs : FilterTrees) (holds : ℕ) (end : Entered) → total (any_code names fs holds end).code ≤ sum_weight fs + total end.code
  one_total names no_filters holds end = omega arith
  one_total names (one_more f fs) holds end =
      let later = any_code names fs holds end in
      omega (arith, filter_total names f (record { holds = holds; fails = later.entry }) later.code, one_total names fs holds end)

entry_total : (code : List Ins) (entry : ℕ) → total (from_entry code entry) ≤ 1 + total code
entry_total code entry =
    choice_total (nat_lt entry (length code)) (1 + total code) (jump_over (over code entry) ∷ code) code (omega (arith, total_cons (jump_over (over code entry)) code)) (omega arith)

code_total : (names : List (List ℕ)) (f : FilterTree) → total (program_code names f) ≤ weight_of f
code_total names f =
    let entered = filter_code names f last_exits verdicts in
    omega (arith, entry_total entered.code entered.entry, filter_total names f last_exits verdicts, verdicts_total)

-- with an island for each far target the program isn't longer than the filter weighs
pub filter_length : (names : List (List ℕ)) (f : FilterTree) → plain_length (program_code names f) ≤ weight_of f
filter_length names f = omega (arith, total_is (program_code names f), code_total names f)
