-- Inner: what a filter comes to by the answers of its tests.
use Rattle.std.specs.Prelude.{◌≡◌, ◌↔◌, ℕ, ◌+◌, Bool, true, false, not, ◌&&◌, ◌==◌, IsTrue, List, [], ◌∷◌, length, drop, if◌then◌else◌}
use Rattle.message_view.specs.Message.{Message}
use Rattle.filter.specs.FilterTree.{FilterTree, FilterTrees, test, all, any, negation, no_filters, one_more}
use Rattle.filter_compile.specs.Holds.{FilterHolds}
use Rattle.filter_reasons.specs.TestsOf.{tests_of}
use Rattle.filter_reasons.specs.declared.near.Answer.{Answer}

-- answers begin with those of some tests, the first of which is at a place
abbrev pub AreAnswers : Message → (List ℕ → Bool) → ℕ → List FilterTree → List Answer → Type 0
AreAnswers m owned first [] answers = Unit {0}
AreAnswers m owned first (t ∷ later) [] = ⊥
AreAnswers m owned first (t ∷ later) (a ∷ answers) = (a.place ≡ first) × (IsTrue a.holds ↔ FilterHolds t m owned) × AreAnswers m owned (first + 1) later answers

-- the first answer, turned if it is the one at the place
abbrev pub first_value : ℕ → List Answer → Bool
first_value place [] = false
first_value place (a ∷ answers) = if a.place == place then not a.holds else a.holds

abbrev pub same : Bool → Bool → Bool
same true b = b
same false b = not b

-- what a filter comes to, by answers that begin with those of its tests
abbrev mutual
  pub value_by : ℕ → List Answer → FilterTree → Bool
  value_by place answers (test t) = first_value place answers
  value_by place answers (all fs) = each_is true place answers fs
  value_by place answers (any fs) = not (each_is false place answers fs)
  value_by place answers (negation f) = not (value_by place answers f)

  pub each_is : Bool → ℕ → List Answer → FilterTrees → Bool
  each_is wanted place answers no_filters = true
  each_is wanted place answers (one_more f fs) = same wanted (value_by place answers f) && each_is wanted place (drop (length (tests_of f)) answers) fs
