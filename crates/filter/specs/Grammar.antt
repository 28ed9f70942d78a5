-- The grammar of filter expressions (own):
--
--     filter = all { "or" all }
--     all    = one { "and" one }
--     one    = "not" one | "(" filter ")" | test
use Rattle.std.specs.Prelude.{◌≡◌, ℕ, ◌+◌, ◌<◌, ◌≤◌, true, List, [], ◌∷◌, ◌++◌, length, Some, Ok, codes}
use Rattle.filter.specs.declared.token.Sign.TheVariants.{Opens, Closes}
use Rattle.filter.specs.declared.test.ArgType.{ArgType}
use Rattle.filter.specs.declared.test.Test.{Test}
use Rattle.filter.specs.declared.test.Test.TheVariants as tests
use Rattle.match_key.specs.declared.arg_number.ArgNumber.{ArgNumber}
use Rattle.filter.specs.declared.opening.Operand.{Operand}
use Rattle.filter.specs.declared.opening.Operand.TheVariants as operands
use Rattle.filter.specs.declared.opening.Opening.TheVariants.{Whole, Has, Begins}
use Rattle.filter.specs.declared.operator.Operator.{Operator}
use Rattle.filter.specs.declared.operator.Operator.TheVariants.{Is}
use Rattle.filter.specs.declared.value.Value.{Value}
use Rattle.filter.specs.Tokens.{Lexeme, word, sign, Item, token}
use Rattle.filter.specs.WordTables.{opening_of, has_test, type_named}
use Rattle.filter.specs.Operators.{operator_of, has_operator}
use Rattle.filter.specs.Values.{value_of}
use Rattle.filter.specs.Tests.{test_of}
use Rattle.filter.specs.FilterTree.{FilterTree, test, negation, all_of, any_of}
use Rattle.filter.specs.Levels.{max_open}
use Rattle.filter.specs.Reading.{max_len, items_of}

abbrev pub not_word : Lexeme
not_word = word (codes "not")

abbrev pub and_word : Lexeme
and_word = word (codes "and")

abbrev pub or_word : Lexeme
or_word = word (codes "or")

-- the tokens of a test: a word that is one, `has` and a field or an argument, `argN is` and a type, or an operand, an
-- operator that it has, and a value that it takes with it
pub data IsTest : List Lexeme → Test → Type 0 where
  whole : {t : Test} (first : List ℕ) → opening_of first ≡ Ok (Whole t) → IsTest (word first ∷ []) t
  has : {t : Test} (first field : List ℕ) → opening_of first ≡ Ok Has → has_test field ≡ Ok t → IsTest (word first ∷ word field ∷ []) t
  typed : (first code : List ℕ) (op : Lexeme) (n : ArgNumber) (type : ArgType) → opening_of first ≡ Ok (Begins (operands.Arg n)) → operator_of op ≡ Some Is → type_named code ≡ Some type → IsTest (word first ∷ op ∷ word code ∷ []) (tests.IsType n type)
  compares : {t : Test} (first : List ℕ) (op it : Lexeme) (operand : Operand) (operator : Operator) (value : Value) → opening_of first ≡ Ok (Begins operand) → operator_of op ≡ Some operator → has_operator operand operator ≡ true → value_of it ≡ Ok value → test_of operand operator value ≡ Some t → IsTest (word first ∷ op ∷ it ∷ []) t

-- tokens and the filter that they spell, inside a number of open `(` and `not`
mutual
  pub data IsOne : ℕ → List Lexeme → FilterTree → Type 0 where
    a_test : {n : ℕ} {ts : List Lexeme} {t : Test} → IsTest ts t → IsOne n ts (test t)
    a_not : {n : ℕ} {ts : List Lexeme} {f : FilterTree} → n < max_open → IsOne (n + 1) ts f → IsOne n (not_word ∷ ts) (negation f)
    a_group : {n : ℕ} {ts : List Lexeme} {f : FilterTree} → n < max_open → IsFilter (n + 1) ts f → IsOne n (sign Opens ∷ (ts ++ sign Closes ∷ [])) f

  -- with `and` between them
  pub data AreOnes : ℕ → List Lexeme → List FilterTree → Type 0 where
    last_one : {n : ℕ} {ts : List Lexeme} {f : FilterTree} → IsOne n ts f → AreOnes n ts (f ∷ [])
    more_ones : {n : ℕ} {ts us : List Lexeme} {f : FilterTree} {fs : List FilterTree} → IsOne n ts f → AreOnes n us fs → AreOnes n (ts ++ and_word ∷ us) (f ∷ fs)

  -- with `or` between them
  pub data AreAlls : ℕ → List Lexeme → List FilterTree → Type 0 where
    last_all : {n : ℕ} {ts : List Lexeme} {fs : List FilterTree} → AreOnes n ts fs → AreAlls n ts (all_of fs ∷ [])
    more_alls : {n : ℕ} {ts us : List Lexeme} {fs gs : List FilterTree} → AreOnes n ts fs → AreAlls n us gs → AreAlls n (ts ++ or_word ∷ us) (all_of fs ∷ gs)

  pub data IsFilter : ℕ → List Lexeme → FilterTree → Type 0 where
    a_list : {n : ℕ} {ts : List Lexeme} {fs : List FilterTree} → AreAlls n ts fs → IsFilter n ts (any_of fs)

-- the tokens, without their places
abbrev pub AreTokens : List Item → List Lexeme → Type 0
AreTokens [] [] = Unit {0}
AreTokens (token place lexeme ∷ items) (l ∷ ls) = (lexeme ≡ l) × AreTokens items ls
AreTokens _ _ = ⊥

-- the text reads as the filter
pub record ReadsAs (text : List ℕ) (filter : FilterTree) : Type 0 where
  pub short : length text ≤ max_len
  pub tokens : List Lexeme
  pub spelled : AreTokens (items_of text) tokens
  pub said : IsFilter 0 tokens filter
