-- Which tests of a filter make it hold if they alone come out the other way (own).
use Rattle.std.specs.Prelude.{◌≡◌, ℕ, ◌+◌, ◌==◌, Bool, List, [], ◌∷◌, length, if◌then◌else◌}
use Rattle.message_view.specs.Message.{Message}
use Rattle.filter.specs.FilterTree.{FilterTree, FilterTrees, test, all, any, negation, no_filters, one_more}
use Rattle.filter_compile.specs.Holds.{FilterHolds}
use Rattle.filter_reasons.specs.TestsOf.{tests_of}

-- a filter in which the test at a place is turned, if the filter's first test is at the place `first`
abbrev mutual
  pub turned_from : ℕ → ℕ → FilterTree → FilterTree
  turned_from first place (test t) = if first == place then negation (test t) else test t
  turned_from first place (all fs) = all (turned_in first place fs)
  turned_from first place (any fs) = any (turned_in first place fs)
  turned_from first place (negation f) = negation (turned_from first place f)

  pub turned_in : ℕ → ℕ → FilterTrees → FilterTrees
  turned_in first place no_filters = no_filters
  turned_in first place (one_more f fs) = one_more (turned_from first place f) (turned_in (first + length (tests_of f)) place fs)

-- a filter in which one of its tests is turned, the nth in the order of the text, counted from 0
abbrev pub turned : ℕ → FilterTree → FilterTree
turned n f = turned_from 0 n f

-- Of the tests from the nth on, those that make the filter hold if they are turned.
pub data AreTurning (f : FilterTree) (m : Message) (owned : List ℕ → Bool) : ℕ → List FilterTree → List FilterTree → Type 0 where
  no_more : {n : ℕ} → AreTurning f m owned n [] []
  turning : {n : ℕ} {t : FilterTree} {later near : List FilterTree} → FilterHolds (turned n f) m owned → AreTurning f m owned (n + 1) later near → AreTurning f m owned n (t ∷ later) (t ∷ near)
  other : {n : ℕ} {t : FilterTree} {later near : List FilterTree} → (FilterHolds (turned n f) m owned → ⊥) → AreTurning f m owned (n + 1) later near → AreTurning f m owned n (t ∷ later) near

-- the tests that make a filter hold if they alone are turned, in the order of the text; none if it holds
pub record AreNear (f : FilterTree) (m : Message) (owned : List ℕ → Bool) (near : List FilterTree) : Type 0 where
  pub none : FilterHolds f m owned → near ≡ []
  pub each : (FilterHolds f m owned → ⊥) → AreTurning f m owned 0 (tests_of f) near
