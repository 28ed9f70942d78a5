-- The operators of filter expressions, and which of them an operand has (own).
use Rattle.std.specs.Prelude.{ℕ, Bool, true, List, [], ◌∷◌, Option, Some, None, is_some, codes}
use Rattle.match_key.specs.Rows.{row_of}
use Rattle.filter.specs.declared.token.Sign.{Sign}
use Rattle.filter.specs.declared.token.Sign.TheVariants as signs
use Rattle.filter.specs.declared.test.Equality.{Equality}
use Rattle.filter.specs.declared.test.Equality.TheVariants as equalities
use Rattle.filter.specs.declared.test.TextRelation.{TextRelation}
use Rattle.filter.specs.declared.test.TextRelation.TheVariants as texts
use Rattle.filter.specs.declared.test.NumberRelation.{NumberRelation}
use Rattle.filter.specs.declared.test.NumberRelation.TheVariants as numbers
use Rattle.filter.specs.declared.opening.Operand.{Operand}
use Rattle.filter.specs.declared.opening.Operand.TheVariants as operands
use Rattle.filter.specs.declared.operator.Operator.{Operator}
use Rattle.filter.specs.declared.operator.Operator.TheVariants.{Equal, Unequal, Less, AtMost, Greater, AtLeast, Shares, Begins, Ends, Is}
use Rattle.filter.specs.Tokens.{Lexeme, word, quoted, sign}

abbrev pub operator_of_sign : Sign → Option Operator
operator_of_sign signs.Opens = None
operator_of_sign signs.Closes = None
operator_of_sign signs.Equal = Some Equal
operator_of_sign signs.Unequal = Some Unequal
operator_of_sign signs.Less = Some Less
operator_of_sign signs.AtMost = Some AtMost
operator_of_sign signs.Greater = Some Greater
operator_of_sign signs.AtLeast = Some AtLeast
operator_of_sign signs.Ampersand = Some Shares

abbrev pub operator_words : List (List ℕ × Operator)
operator_words = (codes "begins", Begins) ∷ (codes "ends", Ends) ∷ (codes "is", Is) ∷ []

abbrev pub operator_of_word : List ℕ → Option Operator
operator_of_word bytes = row_of operator_words bytes

abbrev pub operator_of : Lexeme → Option Operator
operator_of (word bytes) = operator_of_word bytes
operator_of (quoted inside) = None
operator_of (sign s) = operator_of_sign s

-- the equality that an operator asks for, if it does
abbrev pub equality_of : Operator → Option Equality
equality_of Equal = Some equalities.Equal
equality_of Unequal = Some equalities.Unequal
equality_of _ = None

-- how an operator compares texts, if it does
abbrev pub text_relation_of : Operator → Option TextRelation
text_relation_of Equal = Some texts.Equal
text_relation_of Unequal = Some texts.Unequal
text_relation_of Begins = Some texts.Begins
text_relation_of Ends = Some texts.Ends
text_relation_of _ = None

-- how an operator compares numbers, if it does
abbrev pub number_relation_of : Operator → Option NumberRelation
number_relation_of Equal = Some numbers.Equal
number_relation_of Unequal = Some numbers.Unequal
number_relation_of Less = Some numbers.Less
number_relation_of AtMost = Some numbers.AtMost
number_relation_of Greater = Some numbers.Greater
number_relation_of AtLeast = Some numbers.AtLeast
number_relation_of Shares = Some numbers.Shares
number_relation_of _ = None

-- whether an operand has an operator; an argument has all
abbrev pub has_operator : Operand → Operator → Bool
has_operator operands.Kind op = is_some (equality_of op)
has_operator (operands.Scope scope) op = is_some (equality_of op)
has_operator (operands.Text source) op = is_some (text_relation_of op)
has_operator (operands.Number source) op = is_some (number_relation_of op)
has_operator (operands.Arg n) op = true
