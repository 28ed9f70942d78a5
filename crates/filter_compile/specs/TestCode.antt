-- Inner: the pieces of tests.
use Rattle.std.specs.Prelude.{ℕ, ◌+◌, ◌%◌, ◌^◌, Bool, true, false, List, [], ◌∷◌, nat_lt, if◌then◌else◌}
use Rattle.std.specs.Str.{bytes_eq}
use Rattle.bpf_code.specs.declared.operation.Arithmetic.TheVariants.{Sub}
use Rattle.bpf_code.specs.declared.operation.Op.TheVariants.{Compute, LoadLength}
use Rattle.bpf_code.specs.declared.operation.Operand.TheVariants.{Constant}
use Rattle.bpf_code.specs.declared.operation.Test as machine
use Rattle.bpf_code.specs.declared.operation.Test.TheVariants.{Equal, Above, AtLeast, SharesBit}
use Rattle.bpf_code.specs.declared.operation.Width.TheVariants.{Word}
use Rattle.message_view.specs.declared.extent.TextField as view
use Rattle.message_view.specs.declared.extent.TextField.TheVariants as view_fields
use Rattle.match_key.specs.ArgNumber.{number_of_arg}
use Rattle.summary.specs.declared.edition.Edition.TheVariants.{Two}
use Rattle.summary.specs.Layout.{text_place, argument_place, ownership_place, reply_serial_place, summary_len}
use Rattle.rule_compile.specs.Code.{plain, image_word}
use Rattle.filter.specs.declared.integer.Integer.{Integer}
use Rattle.filter.specs.declared.integer.Integer.TheVariants.{Natural, Negative}
use Rattle.filter.specs.declared.test.Equality.{Equality}
use Rattle.filter.specs.declared.test.Equality.TheVariants as equalities
use Rattle.filter.specs.declared.test.Field.{Field}
use Rattle.filter.specs.declared.test.Field.TheVariants as fields
use Rattle.filter.specs.declared.test.NumberRelation.{NumberRelation}
use Rattle.filter.specs.declared.test.NumberRelation.TheVariants as numbers
use Rattle.filter.specs.declared.test.Scope.{Scope}
use Rattle.filter.specs.declared.test.Scope.TheVariants.{PathNamespace, ArgNamespace, ArgPath}
use Rattle.filter.specs.declared.test.TextField.{TextField}
use Rattle.filter.specs.declared.test.TextField.TheVariants as text_fields
use Rattle.filter.specs.declared.test.TextRelation.{TextRelation}
use Rattle.filter.specs.declared.test.TextRelation.TheVariants as relations
use Rattle.filter.specs.declared.test.TextSource.{TextSource}
use Rattle.filter.specs.declared.test.TextSource.TheVariants as texts
use Rattle.filter.specs.Weights.{asks_owner}
use Rattle.filter_compile.specs.Holds.{text_code}
use Rattle.filter_compile.specs.Names.{slot_in}
use Rattle.filter_compile.specs.declared.exits.Exits.{Exits}
use Rattle.filter_compile.specs.Pieces.{Piece, turned, no, both, either, fork, word_test, indexed_test, is_there, has_len, from_start, is_text, begins, ends, in_namespace, is_nested}

-- the piece's fact is so, or it isn't
abbrev pub exits_for : Equality → Exits → Exits
exits_for equalities.Equal exits = exits
exits_for equalities.Unequal exits = turned exits

abbrev pub says : Equality → Piece → Piece
says equality f exits rest = f (exits_for equality exits) rest

-- ---- fields

abbrev pub view_field : TextField → view.TextField
view_field text_fields.Path = view_fields.Path
view_field text_fields.Interface = view_fields.Interface
view_field text_fields.Member = view_fields.Member
view_field text_fields.ErrorName = view_fields.ErrorName
view_field text_fields.Destination = view_fields.Destination
view_field text_fields.Sender = view_fields.Sender

-- the word that isn't 0 where the field is there
abbrev pub field_place : Field → ℕ
field_place fields.Path = text_place view_fields.Path
field_place fields.Interface = text_place view_fields.Interface
field_place fields.Member = text_place view_fields.Member
field_place fields.ErrorName = text_place view_fields.ErrorName
field_place fields.ReplySerial = reply_serial_place
field_place fields.Destination = text_place view_fields.Destination
field_place fields.Sender = text_place view_fields.Sender

-- ---- arguments

-- argument n has a type that begins with this code
abbrev pub has_type : ℕ → ℕ → Piece
has_type n code = word_test (argument_place n) Equal code

-- The four bytes of a boolean are 0 for false, in either order.
abbrev pub truth_word : Bool → Piece
truth_word true = indexed_test Word 0 Above 0
truth_word false = indexed_test Word 0 Equal 0

abbrev pub truth_code : ℕ → Equality → Bool → Piece
truth_code n equality truth = both (has_type n 98) (from_start (argument_place n + 4) (says equality (truth_word truth)))

-- ---- texts

-- the place of the words of the text at a source
abbrev pub words_at : TextSource → ℕ
words_at (texts.Field field) = text_place (view_field field)
words_at (texts.Arg n type) = argument_place (number_of_arg n) + 4

-- the source has a text
abbrev pub has_text : TextSource → Piece
has_text (texts.Field field) = is_there (text_place (view_field field))
has_text (texts.Arg n type) = has_type (number_of_arg n) (text_code type)

abbrev pub text_relates : TextRelation → List ℕ → ℕ → Piece
text_relates relations.Equal value at exits rest = is_text value at exits rest
text_relates relations.Unequal value at exits rest = is_text value at (turned exits) rest
text_relates relations.Begins value at exits rest = begins value at exits rest
text_relates relations.Ends value at exits rest = ends value at exits rest

-- the sender owns the name of a slot
abbrev pub owns : ℕ → Piece
owns slot = word_test (ownership_place slot) SharesBit (2 ^ (slot % 32))

abbrev pub owner_code : TextRelation → ℕ → Piece
owner_code relations.Unequal slot = both (is_there (text_place view_fields.Sender)) (no (owns slot))
owner_code _ slot = owns slot

abbrev pub text_code_of : List (List ℕ) → TextSource → TextRelation → List ℕ → Piece
text_code_of names source relation value =
    if asks_owner source relation value then owner_code relation (slot_in names value)
    else both (has_text source) (text_relates relation value (words_at source))

-- ---- numbers of the header

-- the comparison of a relation, or of its opposite
abbrev pub comparison_of : NumberRelation → machine.Test
comparison_of numbers.Equal = Equal
comparison_of numbers.Unequal = Equal
comparison_of numbers.Less = AtLeast
comparison_of numbers.AtMost = Above
comparison_of numbers.Greater = Above
comparison_of numbers.AtLeast = AtLeast
comparison_of numbers.Shares = SharesBit

abbrev pub equality_of : NumberRelation → Equality
equality_of numbers.Unequal = equalities.Unequal
equality_of numbers.Less = equalities.Unequal
equality_of numbers.AtMost = equalities.Unequal
equality_of relation = equalities.Equal

-- what no word passes, and what each does
abbrev pub never : Piece
never = fork Above 0xffffffff

abbrev pub always : Piece
always = fork AtLeast 0

-- A passes a comparison with an integer, which may be out of its range
abbrev pub compare_natural : machine.Test → ℕ → Piece
compare_natural SharesBit n = fork SharesBit (n % 2 ^ 32)
compare_natural test n = if nat_lt n (2 ^ 32) then fork test n else never

abbrev pub compare_negative : machine.Test → Piece
compare_negative Above = always
compare_negative AtLeast = always
compare_negative test = never

abbrev pub compare : machine.Test → Integer → Piece
compare test (Natural n) = compare_natural test n
compare test (Negative n) = compare_negative test

-- A is in a relation to an integer
abbrev pub number_relates : NumberRelation → Integer → Piece
number_relates relation value = says (equality_of relation) (compare (comparison_of relation) value)

-- so is the word of the image at a place
abbrev pub word_number : ℕ → NumberRelation → Integer → Piece
word_number at relation value exits rest = image_word at ∷ number_relates relation value exits rest

-- a REPLY_SERIAL isn't always there
abbrev pub reply_serial : NumberRelation → Integer → Piece
reply_serial relation value = both (is_there reply_serial_place) (word_number reply_serial_place relation value)

-- so is the length of the message: what the image has beside its summary
abbrev pub message_len : NumberRelation → Integer → Piece
message_len relation value exits rest = plain LoadLength 0 ∷ plain (Compute Sub Constant) (summary_len Two) ∷ number_relates relation value exits rest

-- ---- paths and names

-- the place of the words of the text that a scope is of
abbrev pub scope_words : Scope → ℕ
scope_words PathNamespace = text_place view_fields.Path
scope_words (ArgNamespace n) = argument_place (number_of_arg n) + 4
scope_words (ArgPath n) = argument_place (number_of_arg n) + 4

-- it is there, of a type that is compared
abbrev pub has_scope : Scope → Piece
has_scope PathNamespace = is_there (text_place view_fields.Path)
has_scope (ArgNamespace n) = has_type (number_of_arg n) 115
has_scope (ArgPath n) = either (has_type (number_of_arg n) 115) (has_type (number_of_arg n) 111)

-- in the namespace of `/` is any path
abbrev pub path_within : List ℕ → ℕ → Piece
path_within value at = if bytes_eq value (47 ∷ []) then has_len AtLeast 0 at else in_namespace 47 value at

abbrev pub scope_relates : Scope → List ℕ → ℕ → Piece
scope_relates PathNamespace value at = path_within value at
scope_relates (ArgNamespace n) value at = in_namespace 46 value at
scope_relates (ArgPath n) value at = is_nested value at

abbrev pub scope_code : Scope → Equality → List ℕ → Piece
scope_code scope equality value = both (has_scope scope) (says equality (scope_relates scope value (scope_words scope)))
