-- The lines of tests, with one test more.
use Rattle.std.proofs.Common.{◌≡◌, ℕ, ◌+◌, ◌<◌, ◌==◌, Bool, true, false, not, List, [], ◌∷◌, ◌++◌, take, length, get_or, refl, sym, ap, ◌∙◌, subst, append_assoc, append-nil, arith, Bor}
use Rattle.std.specs.Prelude.{◌↔◌, IsTrue}
use Rattle.std.proofs.lemmas.Bool.Decides.{nat_tests}
use Rattle.std.proofs.lemmas.List.{map-append, take_more}
use Rattle.message_view.specs.Message.{Message}
use Rattle.filter.specs.declared.filter.Filter.{Filter}
use Rattle.filter.specs.FilterTree.{FilterTree}
use Rattle.filter.specs.Filters.{tree_of}
use Rattle.filter_compile.specs.Holds.{FilterHolds}
use Rattle.rule_reasons.specs.Reasons.{after_fronts}
use Rattle.rule_reasons.proofs.Lines.{more_text}
use Rattle.filter_reasons.specs.Lent.{trees}
use Rattle.filter_reasons.specs.Telling.{told_line, IsTold, holds, fails, AreTold, no_more, told}

-- ---- a verdict that isn't 0

pub positive : (v : ℕ) → not (v == 0) ≡ true → 0 < v
positive v h = go (v == 0) refl h
  where
    go : (empty : Bool) → (v == 0) ≡ empty → not empty ≡ true → 0 < v
    go true e h = cc
    go false e h = grind (arith, nat_tests)

pub nonzero : (v : ℕ) → 0 < v → not (v == 0) ≡ true
nonzero v h = go (v == 0) refl
  where
    go : (empty : Bool) → (v == 0) ≡ empty → not empty ≡ true
    go true e = absurd (grind (arith, nat_tests))
    go false e = refl

-- ---- one test

pub told_by : (m : Message) (owns : Bool) (f : FilterTree) (held : Bool) → (IsTrue held ↔ FilterHolds f m (λ name. owns)) → IsTold m owns f (told_line f held)
told_by m owns f true is = holds (is.0 refl)
told_by m owns f false is = fails (λ h. let e = is.1 h in cc)

-- ---- one test more

one_more : (m : Message) (owns : Bool) (f : FilterTree) (line : List ℕ) → IsTold m owns f line → (fs : List FilterTree) (lines : List (List ℕ)) → AreTold m owns fs lines → AreTold m owns (fs ++ f ∷ []) (lines ++ line ∷ [])
one_more m owns f line is [] [] no_more = told is no_more
one_more m owns f line is [] (other ∷ lines) none = elim none [ ]
one_more m owns f line is (g ∷ fs) [] none = elim none [ ]
one_more m owns f line is (g ∷ fs) (other ∷ lines) (told first rest) = told first (one_more m owns f line is fs lines rest)

pub one_turn : (m : Message) (owns : Bool) (tests : List (Bor Filter)) (i : ℕ) (t : Bor Filter) (lines : List (List ℕ)) (line : List ℕ) → i < length tests → t ≡ get_or tests i t → AreTold m owns (trees (take i tests)) lines → IsTold m owns (tree_of t.now) line → AreTold m owns (trees (take (i + 1) tests)) (lines ++ line ∷ [])
one_turn m owns tests i t lines line below is before now =
    let next : take i tests ++ t ∷ [] ≡ take (i + 1) tests = ap (λ (x : Bor Filter). take i tests ++ x ∷ []) is ∙ sym (take_more tests i t below) in
    let trees_are : trees (take i tests) ++ tree_of t.now ∷ [] ≡ trees (take (i + 1) tests) = sym (map-append (λ (x : Bor Filter). tree_of x.now) (take i tests) (t ∷ [])) ∙ ap trees next in
    subst (λ (fs : List FilterTree). AreTold m owns fs (lines ++ line ∷ [])) trees_are (one_more m owns (tree_of t.now) line now (trees (take i tests)) lines before)

pub next_text : (front start old new : List ℕ) (lines : List (List ℕ)) (line : List ℕ) → old ≡ start ++ after_fronts front lines → new ≡ old ++ (front ++ line) → new ≡ start ++ after_fronts front (lines ++ line ∷ [])
next_text front start old new lines line before after =
    more_text front start old new lines (line ∷ []) before (after ∙ ap (λ (text : List ℕ). old ++ text) (sym (append-nil (front ++ line))))

-- three texts, one after the other
pub three_texts : (old first second new front shown held printed word : List ℕ) → first ≡ old ++ front → second ≡ first ++ shown → new ≡ second ++ held → shown ≡ printed → held ≡ word → new ≡ old ++ (front ++ (printed ++ word))
three_texts old first second new front shown held printed word one two three shown_is held_is =
    three ∙ ap (λ (text : List ℕ). second ++ text) held_is
    ∙ ap (λ (text : List ℕ). text ++ word) (two ∙ ap (λ (text : List ℕ). first ++ text) shown_is ∙ ap (λ (text : List ℕ). text ++ printed) one)
    ∙ append_assoc (old ++ front) printed word ∙ append_assoc old front (printed ++ word)
