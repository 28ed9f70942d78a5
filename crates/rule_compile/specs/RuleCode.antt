-- Inner: the programs of rules.
use Rattle.std.specs.Prelude.{ℕ, ◌+◌, ◌%◌, ◌^◌, List, [], ◌∷◌, length, ◌==◌, if◌then◌else◌, zero, suc, Bool}
use Rattle.std.specs.Str.{bytes_eq}
use Rattle.bpf_code.specs.declared.instruction.Ins.{Ins}
use Rattle.bpf_code.specs.declared.operation.Test.TheVariants.{Equal, AtLeast, SharesBit}
use Rattle.message_view.specs.declared.extent.TextField.TheVariants as texts
use Rattle.message_view.specs.Header.{kind_byte}
use Rattle.match_key.specs.declared.source.Field.TheVariants.{Interface, Member, Path, Destination}
use Rattle.match_key.specs.declared.source.Source.{Source}
use Rattle.match_key.specs.ArgNumber.{number_of_arg}
use Rattle.match_key.specs.declared.source.Source.TheVariants.{Header, Arg}
use Rattle.match_key.specs.declared.relation.Relation.{Relation}
use Rattle.match_key.specs.declared.relation.Relation.TheVariants as relations
use Rattle.match_rule.specs.declared.condition.Condition.{Condition}
use Rattle.match_rule.specs.declared.condition.Condition.TheVariants.{Kind, Sender, Compares}
use Rattle.match_key.specs.Kinds.{kind_meant}
use Rattle.match_rule.specs.RuleTree.{RuleTree, is_owned_name}
use Rattle.summary.specs.Layout.{kind_place, text_place, argument_place, ownership_place}
use Rattle.rule_compile.specs.declared.condition.Part.{Part}
use Rattle.rule_compile.specs.declared.condition.Part.TheVariants.{Words, Bytes}
use Rattle.rule_compile.specs.Code.{image_word, want, settle, returns, is_there, has_text_len, has_bytes, in_namespace}
use Rattle.rule_compile.specs.Folders.{is_nested}

-- argument n has the type of this code
abbrev pub has_type : ℕ → ℕ → List Ins → List Ins
has_type n code rest = image_word (argument_place n) ∷ want Equal code rest

-- argument n is a string or an object path
abbrev pub has_text_type : ℕ → List Ins → List Ins
has_text_type n rest = image_word (argument_place n) ∷ settle Equal 115 rest (want Equal 111 rest)

-- the sender owns the name of a slot
abbrev pub owns : ℕ → List Ins → List Ins
owns slot rest = image_word (ownership_place slot) ∷ want SharesBit (2 ^ (slot % 32)) rest

-- ---- the text at a source

-- the place of its words
abbrev pub words_at : Source → ℕ
words_at (Header Path) = text_place texts.Path
words_at (Header Interface) = text_place texts.Interface
words_at (Header Member) = text_place texts.Member
words_at (Header Destination) = text_place texts.Destination
words_at (Arg n) = argument_place (number_of_arg n) + 4

-- the text has a length that a text in the relation to the value may have; in the namespace of `/` is any path
abbrev pub relation_len : Relation → ℕ → List ℕ → List Ins → List Ins
relation_len relations.Equal at value rest = has_text_len Equal (length value) at rest
relation_len relations.PathNamespace at value rest =
    if bytes_eq value (47 ∷ []) then is_there at rest else has_text_len AtLeast (length value) at rest
relation_len relations.NameNamespace at value rest = has_text_len AtLeast (length value) at rest
relation_len relations.NestedPath at value rest = rest

-- a text of such a length stands in the relation to the value
abbrev pub relation_bytes : Relation → ℕ → List ℕ → List Ins → List Ins
relation_bytes relations.Equal at value rest = has_bytes at value rest
relation_bytes relations.PathNamespace at value rest =
    if bytes_eq value (47 ∷ []) then rest else in_namespace at 47 value rest
relation_bytes relations.NameNamespace at value rest = in_namespace at 46 value rest
relation_bytes relations.NestedPath at value rest = is_nested at value rest

-- the text of a field is there, where the relation's piece doesn't test that
abbrev pub there_code : Relation → ℕ → List Ins → List Ins
there_code relations.NestedPath at rest = is_there at rest
there_code _ at rest = rest

-- argument n has a type that the relation compares
abbrev pub type_code : Relation → ℕ → List Ins → List Ins
type_code relations.NestedPath n rest = has_text_type n rest
type_code _ n rest = has_type n 115 rest

-- the source has a text of a type that the relation compares
abbrev pub source_code : Source → Relation → List Ins → List Ins
source_code (Header field) relation rest = there_code relation (words_at (Header field)) rest
source_code (Arg n) relation rest = type_code relation (number_of_arg n) rest

-- ---- the two parts of a condition's piece

-- what words of the summary tell: all but the bytes of a text
abbrev pub condition_words : ℕ → Condition → List Ins → List Ins
condition_words slot (Kind kind) rest = image_word kind_place ∷ want Equal (kind_byte (kind_meant kind)) rest
condition_words slot (Sender name) rest =
    if is_owned_name name then owns slot rest else has_text_len Equal (length name) (text_place texts.Sender) rest
condition_words slot (Compares source relation value) rest = source_code source relation (relation_len relation (words_at source) value rest)

-- the bytes of a text, where the words passed
abbrev pub condition_bytes : Condition → List Ins → List Ins
condition_bytes (Kind kind) rest = rest
condition_bytes (Sender name) rest = if is_owned_name name then rest else has_bytes (text_place texts.Sender) name rest
condition_bytes (Compares source relation value) rest = relation_bytes relation (words_at source) value rest

-- a part of the piece, in a rule whose sender name has a slot
abbrev pub part_code : Part → ℕ → Condition → List Ins → List Ins
part_code Words slot c rest = condition_words slot c rest
part_code Bytes slot c rest = condition_bytes c rest

-- ---- the order of conditions: of words first those that take few instructions and fail most messages; the kind fails
-- hardly any, since rules are asked about signals alone

-- the rank of a text that is tested for equality
abbrev pub whole_rank : Source → ℕ
whole_rank (Header Member) = 0
whole_rank (Header Interface) = 2
whole_rank (Header Path) = 3
whole_rank (Header Destination) = 3
whole_rank (Arg n) = 5

-- the rank of a text that is tested in another way
abbrev pub other_rank : Source → ℕ
other_rank (Header field) = 4
other_rank (Arg n) = 6

abbrev pub rank_of : Condition → ℕ
rank_of (Kind kind) = 7
rank_of (Sender name) = 1
rank_of (Compares source relations.Equal value) = whole_rank source
rank_of (Compares source _ value) = other_rank source

abbrev pub ranks : ℕ
ranks = 8

-- the pieces of the conditions of one rank, in the order of the rule
abbrev pub of_rank : (Condition → List Ins → List Ins) → ℕ → List Condition → List Ins → List Ins
of_rank piece rank [] rest = rest
of_rank piece rank (c ∷ cs) rest =
    if rank_of c == rank then piece c (of_rank piece rank cs rest) else of_rank piece rank cs rest

-- the pieces of the conditions of the first n ranks, from the lowest rank on
abbrev pub rising : (Condition → List Ins → List Ins) → ℕ → List Condition → List Ins → List Ins
rising piece zero cs rest = rest
rising piece (suc n) cs rest = rising piece n cs (of_rank piece n cs rest)

-- from the highest rank on
abbrev pub falling : (Condition → List Ins → List Ins) → ℕ → List Condition → List Ins → List Ins
falling piece zero cs rest = rest
falling piece (suc n) cs rest = of_rank piece n cs (falling piece n cs rest)

-- a message with a destination is offered to a rule that eavesdrops alone
abbrev pub destination_fits : Bool → List Ins → List Ins
destination_fits eavesdrops rest = if eavesdrops then rest else image_word (text_place texts.Destination) ∷ want Equal 0 rest

-- a match, and after it no match
abbrev pub verdicts : List Ins
verdicts = returns 1 ∷ returns 0 ∷ []

-- The program of a rule, before it is lowered: its jumps may go over any number of instructions. The words of all
-- conditions are tested before any bytes. These are compared from the highest rank on, since messages whose lengths fit
-- differ most in those texts.
abbrev pub rule_code : ℕ → RuleTree → List Ins
rule_code slot rule =
    rising (part_code Words slot) ranks rule.conditions (falling (part_code Bytes slot) ranks rule.conditions (destination_fits rule.eavesdrops verdicts))
