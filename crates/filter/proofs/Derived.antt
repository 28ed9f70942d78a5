-- What the grammar spells is read.
use Rattle.std.proofs.Common.{◌≡◌, ℕ, zero, suc, ◌+◌, ◌<◌, false, List, [], ◌∷◌, ◌++◌, refl, sym, ap, ◌∙◌, append_assoc, arith, add-one}
use Rattle.std.specs.Prelude.{Some, Result, Ok, codes}
use Rattle.std.specs.Str.{bytes_eq}
use Rattle.std.proofs.lemmas.Bool.{ne_eqb, false_from_ne_true}
use Rattle.std.proofs.lemmas.List.{append-nil}
use Rattle.std.proofs.lemmas.Slice.Eq.{bytes_eq-Decides}
use Rattle.filter.specs.declared.error.Fault.{Fault}
use Rattle.filter.specs.declared.opening.Operand.{Operand}
use Rattle.filter.specs.declared.opening.Operand.TheVariants as operands
use Rattle.filter.specs.declared.opening.Opening.{Opening}
use Rattle.filter.specs.declared.operator.Operator.{Operator}
use Rattle.filter.specs.declared.operator.Operator.TheVariants.{Equal, Unequal, Less, AtMost, Greater, AtLeast, Shares, Begins, Ends, Is}
use Rattle.filter.specs.declared.reader.Wanted.TheVariants as wanted
use Rattle.filter.specs.declared.test.Test.{Test}
use Rattle.filter.specs.declared.token.Sign.TheVariants.{Opens, Closes}
use Rattle.filter.specs.declared.value.Value.{Value}
use Rattle.filter.specs.declared.value.Value.TheVariants as values
use Rattle.filter.specs.Tokens.{Lexeme, sign}
use Rattle.filter.specs.WordTables.{opening_of}
use Rattle.filter.specs.Tests.{test_of}
use Rattle.filter.specs.FilterTree.{FilterTree, test, negation, all_of, any_of, with_nots}
use Rattle.filter.specs.Levels.{LevelTree, Nest, empty_level, open_in, count_open, max_open, if_room, filter_of, with_not, nest_one}
use Rattle.filter.specs.Steps.{◌>>=◌, State, wants, start, step, at_end, word_step, wanted_after, is_connective, begin}
use Rattle.filter.specs.Grammar.{not_word, and_word, or_word, IsTest, whole, has, typed, compares, IsOne, a_test, a_not, a_group, AreOnes, last_one, more_ones, AreAlls, last_all, more_alls, IsFilter, a_list}

-- what reading gives from a state on, without places
abbrev pub run : State → List Lexeme → Result FilterTree Fault
run s [] = at_end s
run s (l ∷ ls) = step s l >>= λ t. run t ls

-- ---- a word that begins a test is none of the grammar's own

not_that : (bytes own : List ℕ) (opening : Opening) → ((o : Opening) → opening_of own ≡ Ok o → ⊥) → opening_of bytes ≡ Ok opening → bytes_eq bytes own ≡ false
not_that bytes own opening none is =
    false_from_ne_true (bytes_eq bytes own) (λ e. let same : bytes ≡ own = (bytes_eq-Decides bytes own).0 e in none opening (ap opening_of (sym same) ∙ is))

pub isnt_not : (bytes : List ℕ) (opening : Opening) → opening_of bytes ≡ Ok opening → bytes_eq bytes (codes "not") ≡ false
isnt_not bytes opening is = not_that bytes (codes "not") opening (λ o e. cc) is

pub isnt_connective : (bytes : List ℕ) (opening : Opening) → opening_of bytes ≡ Ok opening → is_connective bytes ≡ false
isnt_connective bytes opening is =
    let no_and : bytes_eq bytes (codes "and") ≡ false = not_that bytes (codes "and") opening (λ o e. cc) is in
    let no_or : bytes_eq bytes (codes "or") ≡ false = not_that bytes (codes "or") opening (λ o e. cc) is in
    rw (no_and, no_or) refl

pub begins : (nest : Nest) (bytes : List ℕ) (opening : Opening) → opening_of bytes ≡ Ok opening → word_step nest bytes ≡ Ok (begin nest opening)
begins nest bytes opening is = rw (isnt_not bytes opening is, isnt_connective bytes opening is, is) refl

-- a value is wanted after an operator that makes a test with one
value_wanted : (operand : Operand) (op : Operator) (value : Value) (t : Test) → test_of operand op value ≡ Some t → wanted_after operand op ≡ wanted.Value operand op
value_wanted operands.Kind op value t is = refl
value_wanted (operands.Text source) op value t is = refl
value_wanted (operands.Scope scope) op value t is = refl
value_wanted (operands.Number source) op value t is = refl
value_wanted (operands.Arg n) Is (values.Text text) t is = absurd (cc)
value_wanted (operands.Arg n) Is (values.Integer integer) t is = absurd (cc)
value_wanted (operands.Arg n) Is (values.Truth truth) t is = absurd (cc)
value_wanted (operands.Arg n) Equal value t is = refl
value_wanted (operands.Arg n) Unequal value t is = refl
value_wanted (operands.Arg n) Less value t is = refl
value_wanted (operands.Arg n) AtMost value t is = refl
value_wanted (operands.Arg n) Greater value t is = refl
value_wanted (operands.Arg n) AtLeast value t is = refl
value_wanted (operands.Arg n) Shares value t is = refl
value_wanted (operands.Arg n) Begins value t is = refl
value_wanted (operands.Arg n) Ends value t is = refl

test_read : (nest : Nest) {ts : List Lexeme} {t : Test} → IsTest ts t → (rest : List Lexeme) → run (wants wanted.Test nest) (ts ++ rest) ≡ run (wants wanted.More (nest_one nest (test t))) rest
test_read nest (whole first is) rest = rw (begins nest first _ is) refl
test_read nest (has first field is of) rest = rw (begins nest first _ is, of) refl
test_read nest (typed first code op n type is o of) rest = rw (begins nest first _ is, o, of) refl
test_read nest (compares first op it operand operator value is o fits v of) rest = rw (begins nest first _ is, o, fits, value_wanted operand operator value _ of, v, of) refl

-- ---- lists

-- a level that has filters
abbrev at : List LevelTree → List FilterTree → List FilterTree → Nest
at outer alls ones = record { outer = outer; inner = record { alls = alls; ones = ones; nots = 0 } }

pub negated_more : (n : ℕ) (f : FilterTree) → with_nots n (negation f) ≡ with_nots (suc n) f
negated_more zero f = refl
negated_more (suc n) f = ap negation (negated_more n f)

room : (nest : Nest) (n : ℕ) → open_in nest ≡ n → n < max_open → (new : Nest) → if_room nest new ≡ Ok new
room nest n is few new = let full : open_in nest ≡ max_open → ⊥ = λ e. omega arith in rw (ne_eqb (open_in nest) max_open full) refl

mutual
  pub one_read : {n : ℕ} {ts : List Lexeme} {f : FilterTree} → IsOne n ts f → (nest : Nest) → open_in nest ≡ n → (rest : List Lexeme) → run (wants wanted.Test nest) (ts ++ rest) ≡ run (wants wanted.More (nest_one nest f)) rest
  one_read (a_test t) nest is rest = test_read nest t rest
  one_read (a_not {n} {ts} {f} few d) nest is rest =
      let deeper : Nest = record { outer = nest.outer; inner = with_not nest.inner } in
      let first : run (wants wanted.Test nest) (not_word ∷ (ts ++ rest)) ≡ run (wants wanted.Test deeper) (ts ++ rest) = rw (room nest n is few deeper) refl in
      let inside : run (wants wanted.Test deeper) (ts ++ rest) ≡ run (wants wanted.More (nest_one deeper f)) rest = one_read d deeper (omega arith) rest in
      let same : with_nots (nest.inner.nots + 1) f ≡ with_nots nest.inner.nots (negation f) = rw add-one (sym (negated_more nest.inner.nots f)) in
      first ∙ inside ∙ ap (λ (g : FilterTree). run (wants wanted.More (record { outer = nest.outer; inner = record { alls = nest.inner.alls; ones = nest.inner.ones ++ g ∷ []; nots = 0 } })) rest) same
  one_read (a_group {n} {ts} {f} few d) nest is rest = group_read d n refl nest is few rest

  group_read : {m : ℕ} {ts : List Lexeme} {f : FilterTree} → IsFilter m ts f → (n : ℕ) → m ≡ n + 1 → (nest : Nest) → open_in nest ≡ n → n < max_open → (rest : List Lexeme) → run (wants wanted.Test nest) ((sign Opens ∷ (ts ++ sign Closes ∷ [])) ++ rest) ≡ run (wants wanted.More (nest_one nest f)) rest
  group_read (a_list {n = m} {ts} {fs} d) n deep nest is few rest =
      let deeper : Nest = record { outer = nest.inner ∷ nest.outer; inner = empty_level } in
      let inside = alls_read d (nest.inner ∷ nest.outer) [] (omega arith) in
      let first : run (wants wanted.Test nest) (sign Opens ∷ ((ts ++ sign Closes ∷ []) ++ rest)) ≡ run (wants wanted.Test deeper) ((ts ++ sign Closes ∷ []) ++ rest) = rw (room nest n is few deeper) refl in
      first ∙ ap (run (wants wanted.Test deeper)) (append_assoc ts (sign Closes ∷ []) rest) ∙ inside.2 (sign Closes ∷ rest)
      ∙ ap (λ (g : FilterTree). run (wants wanted.More (nest_one nest g)) rest) inside.1

  pub ones_read : {n : ℕ} {ts : List Lexeme} {fs : List FilterTree} → AreOnes n ts fs → (outer : List LevelTree) (alls ones : List FilterTree) → count_open outer ≡ n → (rest : List Lexeme) → run (wants wanted.Test (at outer alls ones)) (ts ++ rest) ≡ run (wants wanted.More (at outer alls (ones ++ fs))) rest
  ones_read (last_one d) outer alls ones is rest = one_read d (at outer alls ones) (omega arith) rest
  ones_read (more_ones {n} {ts} {us} {f} {fs} d ds) outer alls ones is rest =
      ap (run (wants wanted.Test (at outer alls ones))) (append_assoc ts (and_word ∷ us) rest)
      ∙ one_read d (at outer alls ones) (omega arith) (and_word ∷ (us ++ rest))
      ∙ ones_read ds outer alls (ones ++ f ∷ []) is rest
      ∙ ap (λ (gs : List FilterTree). run (wants wanted.More (at outer alls gs)) rest) (append_assoc ones (f ∷ []) fs)

  pub alls_read : {n : ℕ} {ts : List Lexeme} {fs : List FilterTree} → AreAlls n ts fs → (outer : List LevelTree) (alls : List FilterTree) → count_open outer ≡ n → (l : LevelTree) × (filter_of l ≡ any_of (alls ++ fs)) × ((rest : List Lexeme) → run (wants wanted.Test (at outer alls [])) (ts ++ rest) ≡ run (wants wanted.More (record { outer = outer; inner = l })) rest)
  alls_read (last_all {n} {ts} {fs} d) outer alls is = (record { alls = alls; ones = fs; nots = 0 }, refl, λ rest. ones_read d outer alls [] is rest)
  alls_read (more_alls {n} {ts} {us} {fs} {gs} d ds) outer alls is =
      let later = alls_read ds outer (alls ++ all_of fs ∷ []) is in (
        later.0,
        later.1 ∙ ap any_of (append_assoc alls (all_of fs ∷ []) gs),
        λ rest. ap (run (wants wanted.Test (at outer alls []))) (append_assoc ts (or_word ∷ us) rest)
            ∙ ones_read d outer alls [] is (or_word ∷ (us ++ rest)) ∙ later.2 rest,
      )

-- what the grammar spells is read
pub filter_read : {ts : List Lexeme} {f : FilterTree} → IsFilter 0 ts f → run start ts ≡ Ok f
filter_read (a_list {n} {ts} {fs} d) =
    let inside = alls_read d [] [] refl in
    ap (run start) (sym (append-nil ts)) ∙ inside.2 [] ∙ ap Ok inside.1
