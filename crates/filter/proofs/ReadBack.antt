-- What is printed of a filter that is read reads as that filter.
use Rattle.std.proofs.Common.{◌≡◌, ℕ, ◌+◌, ◌<◌, ◌≤◌, Bool, true, false, List, [], ◌∷◌, ◌++◌, length, refl, sym, ap, subst, arith}
use Rattle.std.proofs.lemmas.List.{append-nil}
use Rattle.filter.specs.Tokens.{Lexeme}
use Rattle.filter.specs.FilterTree.{FilterTree, test, all, any, negation, list_of, all_of, any_of}
use Rattle.filter.specs.Levels.{max_open}
use Rattle.filter.specs.Reading.{max_len}
use Rattle.filter.specs.Grammar.{and_word, or_word, IsOne, a_test, a_not, a_group, AreOnes, last_one, more_ones, AreAlls, last_all, more_alls, IsFilter, a_list, ReadsAs}
use Rattle.filter.specs.Printing.{text_of, is_list, is_any}
use Rattle.filter.proofs.CanonicalTokens.{grouped, tokens_of, all_tokens, any_tokens}
use Rattle.filter.proofs.CanonicalTests.{test_again}
use Rattle.filter.proofs.SaidTests.{test_said, filter_said}
use Rattle.filter.proofs.LexedFilters.{text_lexed}

-- ---- with fewer that are open

mutual
  fewer_one : {n : ℕ} {ts : List Lexeme} {f : FilterTree} → IsOne n ts f → (m : ℕ) → m ≤ n → IsOne m ts f
  fewer_one (a_test t) m h = a_test t
  fewer_one (a_not few d) m h = a_not (omega arith) (fewer_one d (m + 1) (omega arith))
  fewer_one (a_group few d) m h = a_group (omega arith) (fewer_filter d (m + 1) (omega arith))

  fewer_ones : {n : ℕ} {ts : List Lexeme} {fs : List FilterTree} → AreOnes n ts fs → (m : ℕ) → m ≤ n → AreOnes m ts fs
  fewer_ones (last_one d) m h = last_one (fewer_one d m h)
  fewer_ones (more_ones d ds) m h = more_ones (fewer_one d m h) (fewer_ones ds m h)

  fewer_alls : {n : ℕ} {ts : List Lexeme} {fs : List FilterTree} → AreAlls n ts fs → (m : ℕ) → m ≤ n → AreAlls m ts fs
  fewer_alls (last_all d) m h = last_all (fewer_ones d m h)
  fewer_alls (more_alls d ds) m h = more_alls (fewer_ones d m h) (fewer_alls ds m h)

  fewer_filter : {n : ℕ} {ts : List Lexeme} {f : FilterTree} → IsFilter n ts f → (m : ℕ) → m ≤ n → IsFilter m ts f
  fewer_filter (a_list d) m h = a_list (fewer_alls d m h)

-- ---- what is no list

-- two and more make a list
more_is_all : {n : ℕ} {ts : List Lexeme} {fs : List FilterTree} (f : FilterTree) → AreOnes n ts fs → all_of (f ∷ fs) ≡ all (list_of (f ∷ fs))
more_is_all f (last_one d) = refl
more_is_all f (more_ones d ds) = refl

more_is_any : {n : ℕ} {ts : List Lexeme} {fs : List FilterTree} (f : FilterTree) → AreAlls n ts fs → any_of (f ∷ fs) ≡ any (list_of (f ∷ fs))
more_is_any f (last_all d) = refl
more_is_any f (more_alls d ds) = refl

one_of_ones : {n : ℕ} {ts : List Lexeme} {fs : List FilterTree} → AreOnes n ts fs → is_list (all_of fs) ≡ false → IsOne n ts (all_of fs)
one_of_ones (last_one d) e = d
one_of_ones (more_ones {n} {ts} {us} {f} {fs} d ds) e = let is : is_list (all_of (f ∷ fs)) ≡ true = ap is_list (more_is_all f ds) in absurd cc

one_of_alls : {n : ℕ} {ts : List Lexeme} {fs : List FilterTree} → AreAlls n ts fs → is_list (any_of fs) ≡ false → IsOne n ts (any_of fs)
one_of_alls (last_all d) e = one_of_ones d e
one_of_alls (more_alls {n} {ts} {us} {fs} {gs} d ds) e = let is : is_list (any_of (all_of fs ∷ gs)) ≡ true = ap is_list (more_is_any (all_of fs) ds) in absurd cc

one_of_filter : {n : ℕ} {ts : List Lexeme} {f : FilterTree} → IsFilter n ts f → is_list f ≡ false → IsOne n ts f
one_of_filter (a_list d) e = one_of_alls d e

-- ---- in parentheses, if they are wanted

single : {n : ℕ} {ts : List Lexeme} {f : FilterTree} → IsOne n ts f → IsFilter n ts f
single d = a_list (last_all (last_one d))

group_one : {n : ℕ} {ts : List Lexeme} {f : FilterTree} (b : Bool) → is_list f ≡ b → n < max_open → IsFilter (n + 1) ts f → IsOne n (grouped b ts) f
group_one true e few d = a_group few d
group_one {n} {ts} {f} false e few d = fewer_one (one_of_filter d e) n (omega arith)

-- one filter by its own tokens, in parentheses where it is a list, and as a whole expression
record IsAgain (n : ℕ) (f : FilterTree) : Type 0 where
  one : IsOne n (grouped (is_list f) (tokens_of f)) f
  whole : IsFilter n (tokens_of f) f

-- a filter by its own tokens in an `or`, where parentheses stand round an `or` alone
record IsElement (n : ℕ) (f : FilterTree) : Type 0 where
  ones : List FilterTree
  spelled : AreOnes n (grouped (is_any f) (tokens_of f)) ones
  same : all_of ones ≡ f

not_any : {n : ℕ} {ts : List Lexeme} {f : FilterTree} → IsFilter n ts f → is_any f ≡ false → (fs : List FilterTree) × AreOnes n ts fs × (all_of fs ≡ f)
not_any (a_list (last_all {n} {ts} {fs} d)) e = (fs, d, refl)
not_any (a_list (more_alls {n} {ts} {us} {fs} {gs} d ds)) e = let is : is_any (any_of (all_of fs ∷ gs)) ≡ true = ap is_any (more_is_any (all_of fs) ds) in absurd cc

element_of : {n : ℕ} (f : FilterTree) → IsAgain n f → IsElement n f
element_of (any fs) h = record { ones = any fs ∷ []; spelled = last_one h.one; same = refl }
element_of (all fs) h = let o = not_any h.whole refl in record { ones = o.0; spelled = o.1; same = o.2 }
element_of (test t) h = let o = not_any h.whole refl in record { ones = o.0; spelled = o.1; same = o.2 }
element_of (negation f) h = let o = not_any h.whole refl in record { ones = o.0; spelled = o.1; same = o.2 }

and_tokens : {n : ℕ} {ts : List Lexeme} {fs : List FilterTree} → AreOnes n ts fs → all_tokens true (list_of fs) ≡ and_word ∷ all_tokens false (list_of fs)
and_tokens (last_one d) = refl
and_tokens (more_ones d ds) = refl

or_tokens : {n : ℕ} {ts : List Lexeme} {fs : List FilterTree} → AreAlls n ts fs → any_tokens true (list_of fs) ≡ or_word ∷ any_tokens false (list_of fs)
or_tokens (last_all d) = refl
or_tokens (more_alls d ds) = refl

ones_more : {n : ℕ} {us : List Lexeme} {f : FilterTree} {fs : List FilterTree} → IsAgain n f → AreOnes n us fs → AreOnes n (all_tokens false (list_of fs)) fs → AreOnes n (all_tokens false (list_of (f ∷ fs))) (f ∷ fs)
ones_more {n} {us} {f} {fs} h ds on = subst (λ (ts : List Lexeme). AreOnes n (grouped (is_list f) (tokens_of f) ++ ts) (f ∷ fs)) (sym (and_tokens ds)) (more_ones h.one on)

element_of_more : {n : ℕ} {us : List Lexeme} {f : FilterTree} {fs : List FilterTree} → IsAgain n f → AreOnes n us fs → AreOnes n (all_tokens false (list_of fs)) fs → IsElement n (all_of (f ∷ fs))
element_of_more {n} {us} {f} {fs} h ds on =
    let same : all_of (f ∷ fs) ≡ all (list_of (f ∷ fs)) = more_is_all f ds in
    record { ones = f ∷ fs; spelled = subst (λ (g : FilterTree). AreOnes n (grouped (is_any g) (tokens_of g)) (f ∷ fs)) (sym same) (ones_more h ds on); same = refl }

alls_last : {n : ℕ} {f : FilterTree} → IsElement n f → AreAlls n (any_tokens false (list_of (f ∷ []))) (f ∷ [])
alls_last {n} {f} el =
    subst (λ (ts : List Lexeme). AreAlls n ts (f ∷ [])) (sym (append-nil (grouped (is_any f) (tokens_of f))))
    (subst (λ (g : FilterTree). AreAlls n (grouped (is_any f) (tokens_of f)) (g ∷ [])) el.same (last_all el.spelled))

alls_more : {n : ℕ} {us : List Lexeme} {f : FilterTree} {fs : List FilterTree} → IsElement n f → AreAlls n us fs → AreAlls n (any_tokens false (list_of fs)) fs → AreAlls n (any_tokens false (list_of (f ∷ fs))) (f ∷ fs)
alls_more {n} {us} {f} {fs} el ds on =
    subst (λ (ts : List Lexeme). AreAlls n (grouped (is_any f) (tokens_of f) ++ ts) (f ∷ fs)) (sym (or_tokens ds))
    (subst (λ (g : FilterTree). AreAlls n (grouped (is_any f) (tokens_of f) ++ (or_word ∷ any_tokens false (list_of fs))) (g ∷ fs)) el.same (more_alls el.spelled on))

whole_all : {n : ℕ} {us : List Lexeme} {f : FilterTree} {fs : List FilterTree} → IsAgain n f → AreOnes n us fs → AreOnes n (all_tokens false (list_of fs)) fs → IsFilter n (tokens_of (all_of (f ∷ fs))) (all_of (f ∷ fs))
whole_all {n} {us} {f} {fs} h ds on =
    subst (λ (ts : List Lexeme). IsFilter n ts (all_of (f ∷ fs))) (sym (ap tokens_of (more_is_all f ds))) (a_list (last_all (ones_more h ds on)))

whole_any : {n : ℕ} {us : List Lexeme} {f : FilterTree} {fs : List FilterTree} → IsElement n f → AreAlls n us fs → AreAlls n (any_tokens false (list_of fs)) fs → IsFilter n (tokens_of (any_of (f ∷ fs))) (any_of (f ∷ fs))
whole_any {n} {us} {f} {fs} el ds on =
    subst (λ (ts : List Lexeme). IsFilter n ts (any_of (f ∷ fs))) (sym (ap tokens_of (more_is_any f ds))) (a_list (alls_more el ds on))

mutual
  one_again : {n : ℕ} {ts : List Lexeme} {f : FilterTree} → IsOne n ts f → IsAgain n f
  one_again (a_test {n} {ts} {t} d) = let one : IsOne n (tokens_of (test t)) (test t) = a_test (test_again t (test_said d)) in record { one = one; whole = single one }
  one_again (a_not {n} {ts} {f} few d) = let one : IsOne n (tokens_of (negation f)) (negation f) = a_not few (one_again d).one in record { one = one; whole = single one }
  one_again (a_group {n} {ts} {f} few d) = record { one = group_one (is_list f) refl few (filter_again d); whole = fewer_filter (filter_again d) n (omega arith) }

  ones_again : {n : ℕ} {ts : List Lexeme} {fs : List FilterTree} → AreOnes n ts fs → AreOnes n (all_tokens false (list_of fs)) fs
  ones_again (last_one {n} {ts} {f} d) = subst (λ (us : List Lexeme). AreOnes n us (f ∷ [])) (sym (append-nil (grouped (is_list f) (tokens_of f)))) (last_one (one_again d).one)
  ones_again (more_ones d ds) = ones_more (one_again d) ds (ones_again ds)

  element_again : {n : ℕ} {ts : List Lexeme} {fs : List FilterTree} → AreOnes n ts fs → IsElement n (all_of fs)
  element_again (last_one {n} {ts} {f} d) = element_of f (one_again d)
  element_again (more_ones d ds) = element_of_more (one_again d) ds (ones_again ds)

  alls_again : {n : ℕ} {ts : List Lexeme} {fs : List FilterTree} → AreAlls n ts fs → AreAlls n (any_tokens false (list_of fs)) fs
  alls_again (last_all d) = alls_last (element_again d)
  alls_again (more_alls d ds) = alls_more (element_again d) ds (alls_again ds)

  filter_again : {n : ℕ} {ts : List Lexeme} {f : FilterTree} → IsFilter n ts f → IsFilter n (tokens_of f) f
  filter_again (a_list (last_all (last_one d))) = (one_again d).whole
  filter_again (a_list (last_all (more_ones d ds))) = whole_all (one_again d) ds (ones_again ds)
  filter_again (a_list (more_alls d ds)) = whole_any (element_again d) ds (alls_again ds)

pub text_reads_back : (text : List ℕ) (filter : FilterTree) → ReadsAs text filter → length (text_of filter) ≤ max_len → ReadsAs (text_of filter) filter
text_reads_back text filter is short = record { short = short; tokens = tokens_of filter; spelled = text_lexed filter (filter_said is.said); said = filter_again is.said }
