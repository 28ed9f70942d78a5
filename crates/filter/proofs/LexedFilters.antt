-- The tokens of a filter's text are read of it.
use Rattle.std.proofs.Common.{◌≡◌, ℕ, Bool, true, false, List, [], ◌∷◌, ◌++◌, refl, sym, ◌∙◌, subst, append_assoc}
use Rattle.std.specs.Prelude.{codes}
use Rattle.std.proofs.lemmas.List.{append-nil}
use Rattle.filter.specs.declared.token.Sign.TheVariants as signs
use Rattle.filter.specs.Tokens.{Lexeme, sign, items_from}
use Rattle.filter.specs.FilterTree.{FilterTree, FilterTrees, test, all, any, negation, no_filters, one_more}
use Rattle.filter.specs.Grammar.{AreTokens, not_word, and_word, or_word}
use Rattle.filter.specs.Printing.{text_if, is_list, is_any, text_of, all_text, any_text}
use Rattle.filter.proofs.CanonicalTokens.{grouped, token_if, tokens_of, all_tokens, any_tokens}
use Rattle.filter.proofs.SaidTests.{AreSaid, AreAllSaid}
use Rattle.filter.proofs.Lexed.{IsLexed, IsFree, ends, word_free, free_lexed, nothing_lexed, then_lexed, lexed_then, blank_word_free}
use Rattle.filter.proofs.LexedTests.{test_lexed}

not_free : IsFree (codes "not ") (not_word ∷ [])
not_free = word_free 110 (codes "ot") refl

and_free : (later : Bool) → IsFree (text_if later (codes " and ")) (token_if later and_word)
and_free true = blank_word_free 97 (codes "nd") refl
and_free false = record { on = λ rest us on p. on p }

or_free : (later : Bool) → IsFree (text_if later (codes " or ")) (token_if later or_word)
or_free true = blank_word_free 111 (codes "r") refl
or_free false = record { on = λ rest us on p. on p }

opened : IsFree (codes "(") (sign signs.Opens ∷ [])
opened = record { on = λ rest us on p. (refl, on _) }

closed : IsFree (codes ")") (sign signs.Closes ∷ [])
closed = record { on = λ rest us on p. (refl, on _) }

-- a filter, in parentheses if they are wanted, behind what may stand in front of it
grouped_lexed : (g : Bool) (a x : List ℕ) (ts us : List Lexeme) → IsFree a us → IsLexed x ts → IsLexed (a ++ text_if g (codes "(") ++ x ++ text_if g (codes ")")) (us ++ grouped g ts)
grouped_lexed g a x ts us first h =
    subst (λ (y : List ℕ). IsLexed y (us ++ grouped g ts)) (sym (append_assoc (a ++ text_if g (codes "(")) x (text_if g (codes ")")) ∙ append_assoc a (text_if g (codes "(")) (x ++ text_if g (codes ")")))) (then_lexed first (go g))
  where
    go : (g : Bool) → IsLexed (text_if g (codes "(") ++ (x ++ text_if g (codes ")"))) (grouped g ts)
    go true = then_lexed opened (lexed_then h (λ rest e. refl) (free_lexed closed))
    go false = subst (λ (y : List ℕ). IsLexed y ts) (sym (append-nil x)) h

-- the same before more
grouped_then : (g : Bool) (a x y : List ℕ) (ts us vs : List Lexeme) → IsFree a us → IsLexed x ts → ((rest : List ℕ) → ends rest ≡ true → ends (y ++ rest) ≡ true) → IsLexed y vs → IsLexed (a ++ text_if g (codes "(") ++ x ++ text_if g (codes ")") ++ y) (us ++ (grouped g ts ++ vs))
grouped_then g a x y ts us vs first h e on =
    let o : List ℕ = text_if g (codes "(") in
    let c : List ℕ = text_if g (codes ")") in
    let same : a ++ o ++ x ++ c ++ y ≡ a ++ (o ++ (x ++ (c ++ y))) = append_assoc (a ++ o ++ x) c y ∙ append_assoc (a ++ o) x (c ++ y) ∙ append_assoc a o (x ++ (c ++ y)) in
    subst (λ (z : List ℕ). IsLexed z (us ++ (grouped g ts ++ vs))) (sym same) (then_lexed first (go g))
  where
    go : (g : Bool) → IsLexed (text_if g (codes "(") ++ (x ++ (text_if g (codes ")") ++ y))) (grouped g ts ++ vs)
    go true =
        subst (λ (ws : List Lexeme). IsLexed (codes "(" ++ (x ++ (codes ")" ++ y))) (sign signs.Opens ∷ ws)) (sym (append_assoc ts (sign signs.Closes ∷ []) vs))
        (then_lexed opened (lexed_then h (λ rest e. refl) (then_lexed closed on)))
    go false = lexed_then h e on

all_ends : (fs : FilterTrees) (rest : List ℕ) → ends rest ≡ true → ends (all_text true fs ++ rest) ≡ true
all_ends no_filters rest e = e
all_ends (one_more f fs) rest e = refl

any_ends : (fs : FilterTrees) (rest : List ℕ) → ends rest ≡ true → ends (any_text true fs ++ rest) ≡ true
any_ends no_filters rest e = e
any_ends (one_more f fs) rest e = refl

mutual
  lexed : (f : FilterTree) → AreSaid f → IsLexed (text_of f) (tokens_of f)
  lexed (test t) h = test_lexed t h
  lexed (all fs) h = all_lexed false fs h
  lexed (any fs) h = any_lexed false fs h
  lexed (negation f) h = grouped_lexed (is_list f) (codes "not ") (text_of f) (tokens_of f) (not_word ∷ []) not_free (lexed f h)

  all_lexed : (later : Bool) (fs : FilterTrees) → AreAllSaid fs → IsLexed (all_text later fs) (all_tokens later fs)
  all_lexed later no_filters h = nothing_lexed
  all_lexed later (one_more f fs) h = grouped_then (is_list f) (text_if later (codes " and ")) (text_of f) (all_text true fs) (tokens_of f) (token_if later and_word) (all_tokens true fs) (and_free later) (lexed f h.0) (all_ends fs) (all_lexed true fs h.1)

  any_lexed : (later : Bool) (fs : FilterTrees) → AreAllSaid fs → IsLexed (any_text later fs) (any_tokens later fs)
  any_lexed later no_filters h = nothing_lexed
  any_lexed later (one_more f fs) h = grouped_then (is_any f) (text_if later (codes " or ")) (text_of f) (any_text true fs) (tokens_of f) (token_if later or_word) (any_tokens true fs) (or_free later) (lexed f h.0) (any_ends fs) (any_lexed true fs h.1)

-- the tokens of a filter's text
pub text_lexed : (f : FilterTree) → AreSaid f → AreTokens (items_from 0 0 (text_of f)) (tokens_of f)
text_lexed f h =
    let whole : AreTokens (items_from 0 0 (text_of f ++ [])) (tokens_of f ++ []) = (lexed f h).on [] [] refl (λ q. tt) 0 in
    subst (λ (ts : List Lexeme). AreTokens (items_from 0 0 (text_of f)) ts) (append-nil (tokens_of f))
    (subst (λ (x : List ℕ). AreTokens (items_from 0 0 x) (tokens_of f ++ [])) (append-nil (text_of f)) whole)
