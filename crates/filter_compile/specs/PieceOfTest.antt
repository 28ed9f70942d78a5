-- Inner: the piece of each test.
use Rattle.std.specs.Prelude.{ℕ, ◌+◌, List}
use Rattle.bpf_code.specs.declared.operation.Test.TheVariants.{Equal, Above, SharesBit}
use Rattle.message_view.specs.declared.extent.TextField.TheVariants as view_fields
use Rattle.message_view.specs.Header.{kind_byte}
use Rattle.match_key.specs.ArgNumber.{number_of_arg}
use Rattle.match_key.specs.Kinds.{kind_meant}
use Rattle.summary.specs.Layout.{kind_place, flags_place, body_words_place, count_place, text_place, serial_place}
use Rattle.filter.specs.declared.integer.Integer.{Integer}
use Rattle.filter.specs.declared.test.NumberRelation.{NumberRelation}
use Rattle.filter.specs.declared.test.NumberSource.{NumberSource}
use Rattle.filter.specs.declared.test.NumberSource.TheVariants as sources
use Rattle.filter.specs.declared.test.Test.{Test}
use Rattle.filter.specs.declared.test.Test.TheVariants as tests
use Rattle.filter_compile.specs.Holds.{flag_bit, type_code}
use Rattle.filter_compile.specs.Pieces.{Piece, word_test}
use Rattle.filter_compile.specs.ArgCode.{arg_number}
use Rattle.filter_compile.specs.TestCode.{says, field_place, has_type, truth_code, text_code_of, word_number, reply_serial, message_len, scope_code}

abbrev pub number_code : NumberSource → NumberRelation → Integer → Piece
number_code sources.Serial = word_number serial_place
number_code sources.ReplySerial = reply_serial
number_code sources.Flags = word_number flags_place
number_code sources.BodyLength = word_number (body_words_place + 4)
number_code sources.Args = word_number count_place
number_code sources.Length = message_len
number_code (sources.Arg n) = arg_number (number_of_arg n)

abbrev pub test_code : List (List ℕ) → Test → Piece
test_code names (tests.Kind equality kind) = says equality (word_test kind_place Equal (kind_byte (kind_meant kind)))
test_code names tests.Broadcast = word_test (text_place view_fields.Destination) Equal 0
test_code names (tests.Flag flag) = word_test flags_place SharesBit (flag_bit flag)
test_code names (tests.HasField field) = word_test (field_place field) Above 0
test_code names (tests.HasArg n) = word_test count_place Above (number_of_arg n)
test_code names (tests.IsType n type) = has_type (number_of_arg n) (type_code type)
test_code names (tests.Truth n equality truth) = truth_code (number_of_arg n) equality truth
test_code names (tests.Text source relation value) = text_code_of names source relation value
test_code names (tests.Within scope equality value) = scope_code scope equality value
test_code names (tests.Number source relation value) = number_code source relation value
