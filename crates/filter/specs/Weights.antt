-- What filters weigh: a bound on the instructions of their programs (own).
use Rattle.std.specs.Prelude.{ℕ, ◌+◌, ◌*◌, Bool, false, not, ◌&&◌, ◌==◌, List, length, sum_by, if◌then◌else◌}
use Rattle.std.specs.Str.{bytes_eq}
use Rattle.signature.specs.Name.{bus_name}
use Rattle.filter.specs.declared.test.Scope.{Scope}
use Rattle.filter.specs.declared.test.Scope.TheVariants.{ArgPath}
use Rattle.filter.specs.declared.test.TextField.TheVariants.{Sender}
use Rattle.filter.specs.declared.test.TextSource.{TextSource}
use Rattle.filter.specs.declared.test.TextSource.TheVariants.{Field}
use Rattle.filter.specs.declared.test.TextRelation.{TextRelation}
use Rattle.filter.specs.declared.test.TextRelation.TheVariants.{Equal, Unequal}
use Rattle.filter.specs.declared.test.NumberSource.{NumberSource}
use Rattle.filter.specs.declared.test.NumberSource.TheVariants as sources
use Rattle.filter.specs.declared.test.NumberRelation.{NumberRelation}
use Rattle.filter.specs.declared.test.NumberRelation.TheVariants as relations
use Rattle.filter.specs.declared.test.Test.{Test}
use Rattle.filter.specs.declared.test.Test.TheVariants as tests
use Rattle.filter.specs.Tokens.{begins_with}
use Rattle.filter.specs.FilterTree.{FilterTree, FilterTrees, test, all, any, negation, no_filters, one_more}

-- a name that a message's SENDER never is, since another connection may own it: neither a unique name nor that of the bus
abbrev pub is_owned_name : List ℕ → Bool
is_owned_name name = not (begins_with 58 name) && not (bytes_eq name bus_name)

-- a test of who owns a name
abbrev pub asks_owner : TextSource → TextRelation → List ℕ → Bool
asks_owner (Field Sender) Equal text = is_owned_name text
asks_owner (Field Sender) Unequal text = is_owned_name text
asks_owner source relation text = false

abbrev pub text_weight : TextSource → TextRelation → List ℕ → ℕ
text_weight source relation text = if asks_owner source relation text then 8 else length text + 24

-- how many `/` a text has
abbrev pub slashes : List ℕ → ℕ
slashes text = sum_by (λ byte. if byte == 47 then 1 else 0) text

abbrev pub scope_weight : Scope → List ℕ → ℕ
scope_weight (ArgPath n) text = 16 * slashes text + (length text + 24)
scope_weight scope text = length text + 24

-- an argument has one of nine types, which are compared one by one
abbrev pub arg_weight : NumberRelation → ℕ
arg_weight relations.Less = 96
arg_weight relations.AtMost = 96
arg_weight relations.Greater = 96
arg_weight relations.AtLeast = 96
arg_weight relation = 64

abbrev pub number_weight : NumberSource → NumberRelation → ℕ
number_weight (sources.Arg n) relation = arg_weight relation
number_weight source relation = 8

abbrev pub test_weight : Test → ℕ
test_weight (tests.Truth n equality truth) = 16
test_weight (tests.Text source relation text) = text_weight source relation text
test_weight (tests.Within scope equality text) = scope_weight scope text
test_weight (tests.Number source relation integer) = number_weight source relation
test_weight t = 8

-- the weight of all tests
abbrev mutual
  pub tests_weight : FilterTree → ℕ
  tests_weight (test t) = test_weight t
  tests_weight (all fs) = sum_weight fs
  tests_weight (any fs) = sum_weight fs
  tests_weight (negation f) = tests_weight f

  pub sum_weight : FilterTrees → ℕ
  sum_weight no_filters = 0
  sum_weight (one_more f fs) = tests_weight f + sum_weight fs

-- what a filter weighs: 8, and the weight of each test
abbrev pub weight_of : FilterTree → ℕ
weight_of f = 8 + tests_weight f
