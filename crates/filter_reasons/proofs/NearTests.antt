-- Filters with a test turned, by the answers of their tests.
use Rattle.std.proofs.Common.{◌≡◌, ℕ, ◌+◌, ◌<◌, ◌≤◌, ◌==◌, Bool, true, false, not, List, [], ◌∷◌, ◌++◌, drop, length, get_or, refl, sym, ap, ◌∙◌, subst, inl, inr, append_assoc, append-nil, arith, Bor}
use Rattle.std.specs.Prelude.{◌↔◌, ◌⊎◌, ◌&&◌, IsTrue, if◌then◌else◌}
use Rattle.std.proofs.lemmas.Bool.{cases_Bool}
use Rattle.std.proofs.lemmas.List.{map-append, drop_more, drop_all}
use Rattle.message_view.specs.Message.{Message}
use Rattle.filter.specs.declared.filter.Filter.{Filter}
use Rattle.filter.specs.FilterTree.{FilterTree, FilterTrees, test, all, any, negation, no_filters, one_more}
use Rattle.filter.specs.Filters.{tree_of}
use Rattle.filter_compile.specs.Holds.{FilterHolds, EachHolds, OneHolds}
use Rattle.filter_reasons.specs.Answered.{AreAnswers, value_by, each_is}
use Rattle.filter_reasons.specs.Lent.{trees}
use Rattle.filter_reasons.specs.TestsOf.{tests_of, tests_in}
use Rattle.filter_reasons.specs.Turned.{turned_from, turned_in, turned, AreTurning, no_more, turning, other}
use Rattle.filter_reasons.specs.declared.near.Answer.{Answer}

-- ---- answers

-- the tests from a place on
trees_at : (tests : List (Bor Filter)) (i : ℕ) (t : Bor Filter) → i < length tests → t ≡ get_or tests i t → trees (drop i tests) ≡ tree_of t.now ∷ trees (drop (i + 1) tests)
trees_at tests i t below is = ap trees (drop_more tests i t below) ∙ ap (λ (x : Bor Filter). tree_of x.now ∷ trees (drop (i + 1) tests)) (sym is)

none_left : (tests : List (Bor Filter)) (i : ℕ) → length tests ≤ i → trees (drop i tests) ≡ []
none_left tests i past = ap trees (drop_all i tests past)

-- one answer more
pub more_answers : (m : Message) (owned : List ℕ → Bool) (tests : List (Bor Filter)) (i : ℕ) (t : Bor Filter) (held : Bool) (answers : List Answer) → i < length tests → t ≡ get_or tests i t → (IsTrue held ↔ FilterHolds (tree_of t.now) m owned) → ((later : List Answer) → AreAnswers m owned i (trees (drop i tests)) later → AreAnswers m owned 0 (trees tests) (answers ++ later)) → (later : List Answer) → AreAnswers m owned (i + 1) (trees (drop (i + 1) tests)) later → AreAnswers m owned 0 (trees tests) ((answers ++ record { place = i; holds = held } ∷ []) ++ later)
more_answers m owned tests i t held answers below is decides before later rest =
    let a : Answer = record { place = i; holds = held } in
    let first : AreAnswers m owned i (trees (drop i tests)) (a ∷ later) = subst (λ (ts : List FilterTree). AreAnswers m owned i ts (a ∷ later)) (sym (trees_at tests i t below is)) (refl, decides, rest) in
    subst (λ (l : List Answer). AreAnswers m owned 0 (trees tests) l) (sym (append_assoc answers (a ∷ []) later)) (before (a ∷ later) first)

pub all_answers : (m : Message) (owned : List ℕ → Bool) (tests : List (Bor Filter)) (i : ℕ) (answers : List Answer) → length tests ≤ i → ((later : List Answer) → AreAnswers m owned i (trees (drop i tests)) later → AreAnswers m owned 0 (trees tests) (answers ++ later)) → AreAnswers m owned 0 (trees tests) answers
all_answers m owned tests i answers past before =
    let none : AreAnswers m owned i (trees (drop i tests)) [] = subst (λ (ts : List FilterTree). AreAnswers m owned i ts []) (sym (none_left tests i past)) record {} in
    subst (λ (l : List Answer). AreAnswers m owned 0 (trees tests) l) (append-nil answers) (before [] none)

-- answers of some tests and of those after them
parted : (m : Message) (owned : List ℕ → Bool) (ts us : List FilterTree) (first : ℕ) (answers : List Answer) → AreAnswers m owned first (ts ++ us) answers → AreAnswers m owned first ts answers × AreAnswers m owned (first + length ts) us (drop (length ts) answers)
parted m owned [] us first answers are = (record {}, subst (λ (n : ℕ). AreAnswers m owned n us answers) (omega arith) are)
parted m owned (t ∷ ts) us first [] are = absurd are
parted m owned (t ∷ ts) us first (a ∷ answers) are =
    let later = parted m owned ts us (first + 1) answers are.2 in
    ((are.0, are.1, later.0), subst (λ (n : ℕ). AreAnswers m owned n us (drop (length ts) answers)) (omega arith) later.1)

-- ---- what a filter comes to

turns : (b : Bool) (P : Type 0) → (IsTrue b ↔ P) → (IsTrue (not b) ↔ (P → ⊥))
turns true P is = (λ e. absurd cc, λ no. absurd (no (is.0 refl)))
turns false P is = (λ e p. let h = is.1 p in absurd cc, λ no. refl)

both : (a b : Bool) (P Q : Type 0) → (IsTrue a ↔ P) → (IsTrue b ↔ Q) → (IsTrue (a && b) ↔ P × Q)
both true b P Q is next = (λ e. (is.0 refl, next.0 e), λ h. next.1 h.1)
both false b P Q is next = (λ e. absurd cc, λ h. let e = is.1 h.0 in absurd cc)

either : (a b : Bool) (P Q : Type 0) → (IsTrue a ↔ P) → (IsTrue (not b) ↔ Q) → (IsTrue (not (not a && b)) ↔ P ⊎ Q)
either true b P Q is next = (λ e. inl (is.0 refl), λ h. refl)
either false b P Q is next = (λ e. inr (next.0 e), λ h. elim h [ inl p ↦ (let e = is.1 p in absurd cc) | inr q ↦ next.1 q ])

by_test : (f : FilterTree) (m : Message) (owned : List ℕ → Bool) (first place : ℕ) (a : Answer) → a.place ≡ first → (IsTrue a.holds ↔ FilterHolds f m owned) → (IsTrue (if a.place == place then not a.holds else a.holds) ↔ FilterHolds (if first == place then negation f else f) m owned)
by_test f m owned first place a at is = rw at (elim (cases_Bool (first == place)) [
  | inl here ↦ rw here (turns a.holds (FilterHolds f m owned) is)
  | inr there ↦ rw there is
])

mutual
  comes : (m : Message) (owned : List ℕ → Bool) (place : ℕ) (f : FilterTree) (first : ℕ) (answers : List Answer) → AreAnswers m owned first (tests_of f) answers → (IsTrue (value_by place answers f) ↔ FilterHolds (turned_from first place f) m owned)
  comes m owned place (test t) first [] are = absurd are
  comes m owned place (test t) first (a ∷ answers) are = by_test (test t) m owned first place a are.0 are.1
  comes m owned place (all fs) first answers are = each_comes m owned place fs first answers are
  comes m owned place (any fs) first answers are = one_comes m owned place fs first answers are
  comes m owned place (negation f) first answers are = turns (value_by place answers f) (FilterHolds (turned_from first place f) m owned) (comes m owned place f first answers are)

  each_comes : (m : Message) (owned : List ℕ → Bool) (place : ℕ) (fs : FilterTrees) (first : ℕ) (answers : List Answer) → AreAnswers m owned first (tests_in fs) answers → (IsTrue (each_is true place answers fs) ↔ EachHolds (turned_in first place fs) m owned)
  each_comes m owned place no_filters first answers are = (λ e. record {}, λ h. refl)
  each_comes m owned place (one_more f fs) first answers are =
      let parts = parted m owned (tests_of f) (tests_in fs) first answers are in
      both _ _ _ _ (comes m owned place f first answers parts.0) (each_comes m owned place fs (first + length (tests_of f)) (drop (length (tests_of f)) answers) parts.1)

  one_comes : (m : Message) (owned : List ℕ → Bool) (place : ℕ) (fs : FilterTrees) (first : ℕ) (answers : List Answer) → AreAnswers m owned first (tests_in fs) answers → (IsTrue (not (each_is false place answers fs)) ↔ OneHolds (turned_in first place fs) m owned)
  one_comes m owned place no_filters first answers are = (λ e. absurd cc, λ h. absurd h)
  one_comes m owned place (one_more f fs) first answers are =
      let parts = parted m owned (tests_of f) (tests_in fs) first answers are in
      either _ _ _ _ (comes m owned place f first answers parts.0) (one_comes m owned place fs (first + length (tests_of f)) (drop (length (tests_of f)) answers) parts.1)

pub decides : (m : Message) (owned : List ℕ → Bool) (place : ℕ) (f : FilterTree) (answers : List Answer) (value : Bool) → AreAnswers m owned 0 (tests_of f) answers → value ≡ value_by place answers f → (IsTrue value ↔ FilterHolds (turned place f) m owned)
decides m owned place f answers value are is = rw is (comes m owned place f 0 answers are)

-- ---- the tests that make it hold

pub one_near : (f : FilterTree) (m : Message) (owned : List ℕ → Bool) (tests near : List (Bor Filter)) (i : ℕ) (t : Bor Filter) → i < length tests → t ≡ get_or tests i t → FilterHolds (turned i f) m owned → ((later : List FilterTree) → AreTurning f m owned i (trees (drop i tests)) later → AreTurning f m owned 0 (tests_of f) (trees near ++ later)) → (later : List FilterTree) → AreTurning f m owned (i + 1) (trees (drop (i + 1) tests)) later → AreTurning f m owned 0 (tests_of f) (trees (near ++ t ∷ []) ++ later)
one_near f m owned tests near i t below is holds before later rest =
    let first : AreTurning f m owned i (trees (drop i tests)) (tree_of t.now ∷ later) = subst (λ (ts : List FilterTree). AreTurning f m owned i ts (tree_of t.now ∷ later)) (sym (trees_at tests i t below is)) (turning holds rest) in
    let same : trees near ++ tree_of t.now ∷ later ≡ trees (near ++ t ∷ []) ++ later = sym (append_assoc (trees near) (tree_of t.now ∷ []) later) ∙ ap (λ (ts : List FilterTree). ts ++ later) (sym (map-append (λ (x : Bor Filter). tree_of x.now) near (t ∷ []))) in
    subst (λ (ts : List FilterTree). AreTurning f m owned 0 (tests_of f) ts) same (before (tree_of t.now ∷ later) first)

pub none_near : (f : FilterTree) (m : Message) (owned : List ℕ → Bool) (tests near : List (Bor Filter)) (i : ℕ) (t : Bor Filter) → i < length tests → t ≡ get_or tests i t → (FilterHolds (turned i f) m owned → ⊥) → ((later : List FilterTree) → AreTurning f m owned i (trees (drop i tests)) later → AreTurning f m owned 0 (tests_of f) (trees near ++ later)) → (later : List FilterTree) → AreTurning f m owned (i + 1) (trees (drop (i + 1) tests)) later → AreTurning f m owned 0 (tests_of f) (trees near ++ later)
none_near f m owned tests near i t below is fails before later rest =
    before later (subst (λ (ts : List FilterTree). AreTurning f m owned i ts later) (sym (trees_at tests i t below is)) (other fails rest))

pub all_near : (f : FilterTree) (m : Message) (owned : List ℕ → Bool) (tests near : List (Bor Filter)) (i : ℕ) → length tests ≤ i → ((later : List FilterTree) → AreTurning f m owned i (trees (drop i tests)) later → AreTurning f m owned 0 (tests_of f) (trees near ++ later)) → AreTurning f m owned 0 (tests_of f) (trees near)
all_near f m owned tests near i past before =
    let none : AreTurning f m owned i (trees (drop i tests)) [] = subst (λ (ts : List FilterTree). AreTurning f m owned i ts []) (sym (none_left tests i past)) no_more in
    subst (λ (ts : List FilterTree). AreTurning f m owned 0 (tests_of f) ts) (append-nil (trees near)) (before [] none)
