-- The values of filter expressions: texts, integers, `true` and `false` (own).
use Rattle.std.specs.Prelude.{ℕ, Bool, true, false, not, List, [], ◌∷◌, Option, Some, None, Result, Ok, Err, codes, ◌||◌, ◌==◌, if◌then◌else◌}
use Rattle.std.specs.Str.{bytes_eq, is_utf8}
use Rattle.signature.specs.Name.{is_digit, is_letter}
use Rattle.match_key.specs.Rows.{row_of}
use Rattle.filter.specs.declared.error.Fault.{Fault}
use Rattle.filter.specs.declared.error.Fault.TheVariants.{BadValue, BadNumber}
use Rattle.filter.specs.declared.integer.Integer as numbers
use Rattle.filter.specs.declared.value.Value.{Value}
use Rattle.filter.specs.declared.value.Value.TheVariants.{Text, Integer, Truth}
use Rattle.filter.specs.Lexis.{without_escapes}
use Rattle.filter.specs.Integers.{integer_of}
use Rattle.filter.specs.Tokens.{Lexeme, word, quoted, sign}

abbrev pub begins_number : List ℕ → Bool
begins_number [] = false
begins_number (b ∷ bs) = is_digit b || b == 45

abbrev pub begins_text : List ℕ → Bool
begins_text [] = false
begins_text (b ∷ bs) = is_letter b || b == 47 || b == 58

-- the grammar's own words, beside `true` and `false`
abbrev pub is_reserved : List ℕ → Bool
is_reserved bytes =
    bytes_eq bytes (codes "and") || bytes_eq bytes (codes "or") || bytes_eq bytes (codes "not") || bytes_eq bytes (codes "has")
    || bytes_eq bytes (codes "is") || bytes_eq bytes (codes "begins") || bytes_eq bytes (codes "ends")

abbrev pub truth_named : List ℕ → Option Bool
truth_named bytes = row_of ((codes "true", true) ∷ (codes "false", false) ∷ []) bytes

-- The text of bytes. An expression is a text in UTF-8, and each of its tokens too, so that no token is refused here.
abbrev pub text_value : List ℕ → Result Value Fault
text_value bytes = if is_utf8 bytes then Ok (Text bytes) else Err BadValue

abbrev pub integer_value : Option numbers.Integer → Result Value Fault
integer_value None = Err BadNumber
integer_value (Some integer) = Ok (Integer integer)

abbrev pub number_value : List ℕ → Result Value Fault
number_value bytes = integer_value (integer_of bytes)

abbrev pub truth_or_text : List ℕ → Option Bool → Result Value Fault
truth_or_text bytes (Some truth) = Ok (Truth truth)
truth_or_text bytes None = if is_reserved bytes || not (begins_text bytes) then Err BadValue else text_value bytes

abbrev pub word_value : List ℕ → Result Value Fault
word_value bytes = if begins_number bytes then number_value bytes else truth_or_text bytes (truth_named bytes)

-- the value that a token is
abbrev pub value_of : Lexeme → Result Value Fault
value_of (word bytes) = word_value bytes
value_of (quoted inside) = text_value (without_escapes false inside)
value_of (sign s) = Err BadValue
