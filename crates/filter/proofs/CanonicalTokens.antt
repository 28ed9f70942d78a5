-- The tokens of a filter's text.
use Rattle.std.proofs.Common.{ℕ, Bool, true, false, List, [], ◌∷◌, ◌++◌}
use Rattle.std.specs.Prelude.{codes}
use Rattle.match_key.specs.Kinds.{kind_word}
use Rattle.match_key.specs.declared.kind_name.KindName.{KindName}
use Rattle.filter.specs.declared.test.Equality.{Equality}
use Rattle.filter.specs.declared.test.Equality.TheVariants as equalities
use Rattle.filter.specs.declared.test.TextRelation.{TextRelation}
use Rattle.filter.specs.declared.test.TextRelation.TheVariants as relations
use Rattle.filter.specs.declared.test.NumberRelation.{NumberRelation}
use Rattle.filter.specs.declared.test.NumberRelation.TheVariants as orders
use Rattle.filter.specs.declared.test.Test.{Test}
use Rattle.filter.specs.declared.test.Test.TheVariants as tests
use Rattle.filter.specs.declared.token.Sign.TheVariants as signs
use Rattle.filter.specs.Tokens.{Lexeme, word, quoted, sign}
use Rattle.filter.specs.FilterTree.{FilterTree, FilterTrees, test, all, any, negation, no_filters, one_more}
use Rattle.filter.specs.Grammar.{not_word, and_word, or_word}
use Rattle.filter.specs.Printing.{escape_all, integer_text, truth_text, kind_text, flag_text, field_text, arg_text, source_text, scope_text, number_text, type_text, is_list, is_any}

abbrev pub equality_token : Equality → Lexeme
equality_token equalities.Equal = sign signs.Equal
equality_token equalities.Unequal = sign signs.Unequal

abbrev pub relation_token : TextRelation → Lexeme
relation_token relations.Equal = sign signs.Equal
relation_token relations.Unequal = sign signs.Unequal
relation_token relations.Begins = word (codes "begins")
relation_token relations.Ends = word (codes "ends")

abbrev pub order_token : NumberRelation → Lexeme
order_token orders.Equal = sign signs.Equal
order_token orders.Unequal = sign signs.Unequal
order_token orders.Less = sign signs.Less
order_token orders.AtMost = sign signs.AtMost
order_token orders.Greater = sign signs.Greater
order_token orders.AtLeast = sign signs.AtLeast
order_token orders.Shares = sign signs.Ampersand

-- what stands between the quotes
abbrev pub escaped : List ℕ → List ℕ
escaped text = escape_all 39 (escape_all 92 text)

abbrev pub kind_tokens : Equality → KindName → List Lexeme
kind_tokens equalities.Equal kind = word (kind_text kind) ∷ []
kind_tokens equalities.Unequal kind = word (codes "type") ∷ sign signs.Unequal ∷ quoted (kind_word kind) ∷ []

abbrev pub test_tokens : Test → List Lexeme
test_tokens (tests.Kind equality kind) = kind_tokens equality kind
test_tokens tests.Broadcast = word (codes "broadcast") ∷ []
test_tokens (tests.Flag flag) = word (flag_text flag) ∷ []
test_tokens (tests.HasField field) = word (codes "has") ∷ word (field_text field) ∷ []
test_tokens (tests.HasArg n) = word (codes "has") ∷ word (arg_text n) ∷ []
test_tokens (tests.IsType n type) = word (arg_text n) ∷ word (codes "is") ∷ word (type_text type) ∷ []
test_tokens (tests.Truth n equality truth) = word (arg_text n) ∷ equality_token equality ∷ word (truth_text truth) ∷ []
test_tokens (tests.Text source relation text) = word (source_text source) ∷ relation_token relation ∷ quoted (escaped text) ∷ []
test_tokens (tests.Within scope equality text) = word (scope_text scope) ∷ equality_token equality ∷ quoted (escaped text) ∷ []
test_tokens (tests.Number source relation integer) = word (number_text source) ∷ order_token relation ∷ word (integer_text integer) ∷ []

-- in parentheses, if they are wanted
abbrev pub grouped : Bool → List Lexeme → List Lexeme
grouped true ts = sign signs.Opens ∷ (ts ++ sign signs.Closes ∷ [])
grouped false ts = ts

abbrev pub token_if : Bool → Lexeme → List Lexeme
token_if true l = l ∷ []
token_if false l = []

abbrev mutual
  pub tokens_of : FilterTree → List Lexeme
  tokens_of (test t) = test_tokens t
  tokens_of (all fs) = all_tokens false fs
  tokens_of (any fs) = any_tokens false fs
  tokens_of (negation f) = not_word ∷ grouped (is_list f) (tokens_of f)

  pub all_tokens : Bool → FilterTrees → List Lexeme
  all_tokens later no_filters = []
  all_tokens later (one_more f fs) = token_if later and_word ++ (grouped (is_list f) (tokens_of f) ++ all_tokens true fs)

  pub any_tokens : Bool → FilterTrees → List Lexeme
  any_tokens later no_filters = []
  any_tokens later (one_more f fs) = token_if later or_word ++ (grouped (is_any f) (tokens_of f) ++ any_tokens true fs)
