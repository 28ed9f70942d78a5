-- A rule's program, with an island of its own for each far target, isn't longer than the rule weighs.
use Rattle.std.proofs.Common.{◌≡◌, ℕ, zero, suc, ◌+◌, ◌-◌, ◌*◌, ◌≤◌, Bool, List, [], ◌∷◌, length, refl, arith}
use Rattle.std.specs.Prelude.{◌/◌, ◌%◌, ◌^◌, ◌==◌, if◌then◌else◌, nat_lt, sum_by}
use Rattle.std.specs.Str.{bytes_eq}
use Rattle.std.proofs.lemmas.Bool.Decides.{nat_tests}
use Rattle.std.proofs.lemmas.List.Sums.{sum_by-cons}
use Rattle.bpf_code.specs.declared.instruction.Ins.{Ins}
use Rattle.bpf_code.specs.declared.operation.Width.TheVariants.{Word, Half, Byte}
use Rattle.bpf_code.specs.declared.operation.Test.{Test}
use Rattle.bpf_code.specs.declared.operation.Test.TheVariants.{Equal, Above, AtLeast, SharesBit}
use Rattle.bpf_code.specs.Table.{op_of}
use Rattle.jump_islands.specs.PlainLength.{span, size_of, sizes_of, plain_length}
use Rattle.match_rule.specs.Bytes.{ends_with}
use Rattle.match_key.specs.ArgNumber.{number_of_arg}
use Rattle.match_key.specs.declared.source.Source.TheVariants.{Header, Arg}
use Rattle.match_key.specs.declared.relation.Relation.{Relation}
use Rattle.match_key.specs.declared.relation.Relation.TheVariants as relations
use Rattle.match_rule.specs.declared.condition.Condition.{Condition}
use Rattle.match_rule.specs.declared.condition.Condition.TheVariants.{Kind, Sender, Compares}
use Rattle.match_rule.specs.RuleTree.{RuleTree, is_owned_name, slashes, relation_weight, condition_weight, weight_of}
use Rattle.message_view.specs.declared.extent.TextField.TheVariants as texts
use Rattle.message_view.specs.Header.{kind_byte}
use Rattle.match_key.specs.Kinds.{kind_meant}
use Rattle.match_rule.specs.Condition.{value_of}
use Rattle.summary.specs.Layout.{kind_place, text_place, argument_place, ownership_place}
use Rattle.rule_compile.specs.declared.condition.Part.TheVariants.{Words, Bytes}
use Rattle.rule_compile.specs.Code.{image_word, load_indexed, want, settle, half_number, same_word, same_words, same_bytes, has_len, is_there, is_there_if, has_text_len, index_text, has_bytes, may_end, in_namespace}
use Rattle.rule_compile.specs.Folders.{parts_of, follow_parts, is_nested}
use Rattle.rule_compile.proofs.Lengths.{total, total_is, total_cons, verdicts_total, branch_total, one_far, index_total, choice_total, weight_of_parts, parts_weight}
use Rattle.rule_compile.specs.RuleCode.{words_at, owns, relation_len, relation_bytes, there_code, type_code, part_code, rank_of, ranks, of_rank, rising, falling, destination_fits, verdicts, rule_code}

-- ---- single instructions

want_total : (test : Test) (k : ℕ) (rest : List Ins) → total (want test k rest) ≤ 2 + total rest
want_total test k rest =
    omega (arith, one_far (span (length rest - 1) (sizes_of rest)), branch_total test k 0 (length rest - 1) rest)

settle_total : (test : Test) (k : ℕ) (exit rest : List Ins) → total (settle test k exit rest) ≤ 2 + total rest
settle_total test k exit rest =
    let n = length rest - length exit in
    omega (arith, one_far (span n (sizes_of rest)), branch_total test k n 0 rest)

-- an instruction that is no jump, and a test of what it gives
test_total : (ins : Ins) (test : Test) (k : ℕ) (rest : List Ins) → size_of (op_of ins.code) ins (sizes_of (want test k rest)) ≡ 1 → total (ins ∷ want test k rest) ≤ 3 + total rest
test_total ins test k rest one = omega (arith, one, total_cons ins (want test k rest), want_total test k rest)

-- ---- pieces

word_total : (at : ℕ) (value : List ℕ) (i : ℕ) (rest : List Ins) → total (same_word at value i rest) ≤ 3 + total rest
word_total at value i rest = test_total (load_indexed Word (at + i)) Equal _ rest refl

words_total : (at : ℕ) (value : List ℕ) (n : ℕ) (rest : List Ins) → total (same_words at value n rest) ≤ 3 * n + total rest
words_total at value zero rest = omega arith
words_total at value (suc n) rest =
    omega (arith, words_total at value n (same_word at value (4 * n) rest), word_total at value (4 * n) rest)

same_total : (at : ℕ) (bytes : List ℕ) (rest : List Ins) → total (same_bytes at bytes rest) ≤ length bytes + 3 + total rest
same_total at [] rest = omega arith
same_total at (a ∷ []) rest = omega (arith, test_total (load_indexed Byte at) Equal a rest refl)
same_total at (a ∷ b ∷ []) rest = omega (arith, test_total (load_indexed Half at) Equal (half_number a b) rest refl)
same_total at (a ∷ b ∷ c ∷ []) rest =
    let last = test_total (load_indexed Byte (at + 2)) Equal c rest refl in
    omega (arith, test_total (load_indexed Half at) Equal (half_number a b) (load_indexed Byte (at + 2) ∷ want Equal c rest) refl)
same_total at (a ∷ b ∷ c ∷ d ∷ more) rest =
    let value = a ∷ b ∷ c ∷ d ∷ more in
    let n = (length more + 3) / 4 in
    omega (arith, word_total at value (length more) (same_words at value n rest), words_total at value n rest)

there_total : (at : ℕ) (rest : List Ins) → total (is_there at rest) ≤ 3 + total rest
there_total at rest = test_total (image_word at) Above 0 rest refl

len_total : (test : Test) (n at : ℕ) (rest : List Ins) → total (has_len test n at rest) ≤ 3 + total rest
len_total test n at rest = test_total (image_word (at + 4)) test n rest refl

text_len_total : (test : Test) (n at : ℕ) (rest : List Ins) → total (has_text_len test n at rest) ≤ 6 + total rest
text_len_total test n at rest =
    let there = choice_total (n == 0) (3 + total rest) (is_there at rest) rest (there_total at rest) (omega arith) in
    omega (arith, len_total test n at (is_there_if (n == 0) at rest))

bytes_total : (at : ℕ) (value : List ℕ) (rest : List Ins) → total (has_bytes at value rest) ≤ length value + 5 + total rest
bytes_total at value rest = omega (arith, index_total at (same_bytes 0 value rest), same_total 0 value rest)

may_end_total : (at n : ℕ) (exit rest : List Ins) → total (may_end at n exit rest) ≤ 3 + total rest
may_end_total at n exit rest =
    omega (arith, total_cons (image_word (at + 4)) (settle Equal n exit rest), settle_total Equal n exit rest)

namespace_total : (at separator : ℕ) (value : List ℕ) (rest : List Ins) → total (in_namespace at separator value rest) ≤ length value + 11 + total rest
namespace_total at separator value rest =
    let last = load_indexed Byte (length value) ∷ want Equal separator rest in
    let a = bytes_total at value (may_end at (length value) rest last) in
    let b = may_end_total at (length value) rest last in
    omega (arith, test_total (load_indexed Byte (length value)) Equal separator rest refl)

-- ---- paths

part_total : (test : Test) (at place : ℕ) (part : List ℕ) (rest : List Ins) → total (has_len test (place + length part) at (same_bytes place part rest)) ≤ length part + 6 + total rest
part_total test at place part rest = omega (arith, len_total test (place + length part) at (same_bytes place part rest), same_total place part rest)

follow_parts_total : (at place : ℕ) (parts : List (List ℕ)) (rest : List Ins) → total (follow_parts at place parts rest) ≤ weight_of_parts 9 parts + total rest
follow_parts_total at place [] rest = omega arith
follow_parts_total at place (part ∷ []) rest =
    choice_total (ends_with 47 part) (weight_of_parts 9 (part ∷ []) + total rest) _ _ (omega (arith, part_total AtLeast at place part rest)) (omega (arith, part_total Equal at place part rest))
follow_parts_total at place (part ∷ next ∷ more) rest =
    let tail = follow_parts at (place + length part) (next ∷ more) rest in
    let ends = may_end at (place + length part) rest tail in
    omega (arith, part_total AtLeast at place part ends, may_end_total at (place + length part) rest tail, follow_parts_total at (place + length part) (next ∷ more) rest)

nested_total : (at : ℕ) (value : List ℕ) (rest : List Ins) → total (is_nested at value rest) ≤ length value + 9 * slashes value + 11 + total rest
nested_total at value rest =
    let tail = follow_parts at 0 (parts_of value) rest in
    let a = len_total Equal 0 at rest in
    let b = index_total at tail in
    let c = follow_parts_total at 0 (parts_of value) rest in
    let d = parts_weight 9 value in
    choice_total (length value == 0) (length value + 9 * slashes value + 11 + total rest) (has_len Equal 0 at rest) (index_text at tail) (omega arith) (omega arith)

-- ---- conditions

relation_len_total : (relation : Relation) (at : ℕ) (value : List ℕ) (rest : List Ins) → total (relation_len relation at value rest) ≤ 6 + total rest
relation_len_total relations.Equal at value rest = text_len_total Equal (length value) at rest
relation_len_total relations.PathNamespace at value rest =
    let there = there_total at rest in
    choice_total (bytes_eq value (47 ∷ [])) (6 + total rest) (is_there at rest) _ (omega arith) (text_len_total AtLeast (length value) at rest)
relation_len_total relations.NameNamespace at value rest = text_len_total AtLeast (length value) at rest
relation_len_total relations.NestedPath at value rest = omega arith

relation_total : (relation : Relation) (at : ℕ) (value : List ℕ) (rest : List Ins) → total (relation_bytes relation at value rest) ≤ length value + relation_weight relation value + 11 + total rest
relation_total relations.Equal at value rest = omega (arith, bytes_total at value rest)
relation_total relations.PathNamespace at value rest =
    let within = namespace_total at 47 value rest in
    choice_total (bytes_eq value (47 ∷ [])) (length value + 0 + 11 + total rest) rest (in_namespace at 47 value rest) (omega arith) (omega arith)
relation_total relations.NameNamespace at value rest = omega (arith, namespace_total at 46 value rest)
relation_total relations.NestedPath at value rest = omega (arith, nested_total at value rest)

there_code_total : (relation : Relation) (at : ℕ) (rest : List Ins) → total (there_code relation at rest) ≤ 3 + total rest
there_code_total relations.NestedPath at rest = there_total at rest
there_code_total _ at rest = omega arith

type_code_total : (relation : Relation) (n : ℕ) (rest : List Ins) → total (type_code relation n rest) ≤ 5 + total rest
type_code_total relations.NestedPath n rest =
    let tail = want Equal 111 rest in
    omega (arith, total_cons (image_word (argument_place n)) (settle Equal 115 rest tail), settle_total Equal 115 rest tail, want_total Equal 111 rest)
type_code_total _ n rest = omega (arith, test_total (image_word (argument_place n)) Equal 115 rest refl)

-- how many of the instructions test words
abbrev words_weight : Condition → ℕ
words_weight c = 11

-- how many compare bytes
abbrev bytes_weight : Condition → ℕ
bytes_weight (Compares source relation value) = 13 + length value + relation_weight relation value
bytes_weight c = 13 + length (value_of c)

both_weights : (c : Condition) → words_weight c + bytes_weight c ≤ condition_weight c
both_weights (Compares source relation value) = omega arith
both_weights c = omega arith

-- a piece of a condition isn't longer than this weight
abbrev IsWithin : (Condition → ℕ) → (Condition → List Ins → List Ins) → Type 0
IsWithin weight piece = (c : Condition) (rest : List Ins) → total (piece c rest) ≤ weight c + total rest

words_within : (slot : ℕ) → IsWithin words_weight (part_code Words slot)
words_within slot (Kind kind) rest = omega (arith, test_total (image_word kind_place) Equal (kind_byte (kind_meant kind)) rest refl)
words_within slot (Sender name) rest =
    let a = test_total (image_word (ownership_place slot)) SharesBit (2 ^ (slot % 32)) rest refl in
    let b = text_len_total Equal (length name) (text_place texts.Sender) rest in
    choice_total (is_owned_name name) (11 + total rest) (owns slot rest) (has_text_len Equal (length name) (text_place texts.Sender) rest) (omega arith) (omega arith)
words_within slot (Compares (Header field) relation value) rest =
    let tail = relation_len relation (words_at (Header field)) value rest in
    omega (arith, there_code_total relation (words_at (Header field)) tail, relation_len_total relation (words_at (Header field)) value rest)
words_within slot (Compares (Arg n) relation value) rest =
    let k : ℕ = number_of_arg n in
    let tail = relation_len relation (argument_place k + 4) value rest in
    omega (arith, type_code_total relation k tail, relation_len_total relation (argument_place k + 4) value rest)

bytes_within : (slot : ℕ) → IsWithin bytes_weight (part_code Bytes slot)
bytes_within slot (Kind kind) rest = omega arith
bytes_within slot (Sender name) rest =
    let b = bytes_total (text_place texts.Sender) name rest in
    choice_total (is_owned_name name) (13 + length name + total rest) rest (has_bytes (text_place texts.Sender) name rest) (omega arith) (omega arith)
bytes_within slot (Compares source relation value) rest = omega (arith, relation_total relation (words_at source) value rest)

-- ---- rules

module _ (weight : Condition → ℕ) (piece : Condition → List Ins → List Ins) (within : IsWithin weight piece) where
  -- what the conditions of the ranks below n weigh
  abbrev weight_below : ℕ → List Condition → ℕ
  weight_below n [] = 0
  weight_below n (c ∷ cs) = (if nat_lt (rank_of c) n then weight c else 0) + weight_below n cs

  below_weight : (n : ℕ) (cs : List Condition) → weight_below n cs ≤ sum_by weight cs
  below_weight n [] = omega arith
  below_weight n (c ∷ cs) = grind (arith, nat_tests, below_weight n cs, sum_by-cons weight c cs)

  rank_total : (n : ℕ) (cs : List Condition) (rest : List Ins) → weight_below n cs + total (of_rank piece n cs rest) ≤ weight_below (suc n) cs + total rest
  rank_total n [] rest = omega arith
  rank_total n (c ∷ cs) rest = grind (arith, nat_tests, within c (of_rank piece n cs rest), rank_total n cs rest)

  rising_total : (n : ℕ) (cs : List Condition) (rest : List Ins) → total (rising piece n cs rest) ≤ weight_below n cs + total rest
  rising_total zero cs rest = omega arith
  rising_total (suc n) cs rest = omega (arith, rising_total n cs (of_rank piece n cs rest), rank_total n cs rest)

  falling_total : (n : ℕ) (cs : List Condition) (rest : List Ins) → total (falling piece n cs rest) ≤ weight_below n cs + total rest
  falling_total zero cs rest = omega arith
  falling_total (suc n) cs rest = omega (arith, rank_total n cs (falling piece n cs rest), falling_total n cs rest)

offered_total : (eavesdrops : Bool) → total (destination_fits eavesdrops verdicts) ≤ 5
offered_total eavesdrops =
    let asks = test_total (image_word (text_place texts.Destination)) Equal 0 verdicts refl in
    let none = verdicts_total in
    choice_total eavesdrops 5 verdicts _ (omega arith) (omega arith)

both_sums : (cs : List Condition) → sum_by words_weight cs + sum_by bytes_weight cs ≤ sum_by condition_weight cs
both_sums [] = omega arith
both_sums (c ∷ cs) =
    omega (arith, both_weights c, both_sums cs, sum_by-cons words_weight c cs, sum_by-cons bytes_weight c cs, sum_by-cons condition_weight c cs)

code_total : (slot : ℕ) (rule : RuleTree) → total (rule_code slot rule) ≤ weight_of rule
code_total slot rule =
    let cs = rule.conditions in
    let tail = destination_fits rule.eavesdrops verdicts in
    let bytes = falling (part_code Bytes slot) ranks cs tail in
    let a = rising_total words_weight (part_code Words slot) (words_within slot) ranks cs bytes in
    let b = falling_total bytes_weight (part_code Bytes slot) (bytes_within slot) ranks cs tail in
    let c = below_weight words_weight (part_code Words slot) (words_within slot) ranks cs in
    let d = below_weight bytes_weight (part_code Bytes slot) (bytes_within slot) ranks cs in
    omega (arith, offered_total rule.eavesdrops, both_sums cs)

-- with an island for each far target the program isn't longer than the rule weighs
pub rule_length : (slot : ℕ) (rule : RuleTree) → plain_length (rule_code slot rule) ≤ weight_of rule
rule_length slot rule = omega (arith, total_is (rule_code slot rule), code_total slot rule)
