-- Inner: what holds of each test of a filter.
use Rattle.message_value.specs.Bytes.{AreBytes}
use Rattle.filter.specs.FilterTree.{FilterTree, FilterTrees, test, all, any, negation, no_filters, one_more}
use Rattle.filter.specs.declared.test.Test.{Test}
use Rattle.filter.specs.declared.test.Test.TheVariants as tests

abbrev mutual
  pub Each : (Test → Type 0) → FilterTree → Type 0
  Each P (test t) = P t
  Each P (all fs) = EachIn P fs
  Each P (any fs) = EachIn P fs
  Each P (negation f) = Each P f

  pub EachIn : (Test → Type 0) → FilterTrees → Type 0
  EachIn P no_filters = Unit {0}
  EachIn P (one_more f fs) = Each P f × EachIn P fs

-- the bytes of its text are below 256
abbrev pub HasBytes : Test → Type 0
HasBytes (tests.Text source relation value) = AreBytes value
HasBytes (tests.Within scope equality value) = AreBytes value
HasBytes t = Unit {0}
