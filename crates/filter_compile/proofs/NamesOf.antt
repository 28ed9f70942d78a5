-- The names that a filter asks for are among its names, and are few.
use Rattle.std.proofs.Common.{◌≡◌, ℕ, ◌+◌, ◌*◌, ◌<◌, ◌≤◌, true, List, [], ◌∷◌, ◌++◌, length, Option, Some, None, inl, inr, refl, sym, arith, bytes_eq}
use Rattle.std.specs.Prelude.{IfSome}
use Rattle.std.proofs.lemmas.Bool.{true≢false, cases_Bool}
use Rattle.std.proofs.lemmas.List.{length-append}
use Rattle.std.proofs.lemmas.Slice.Eq.{bytes_eq-Decides}
use Rattle.filter.specs.FilterTree.{FilterTree, FilterTrees, test, all, any, negation, no_filters, one_more}
use Rattle.filter.specs.Weights.{asks_owner, scope_weight, arg_weight, number_weight, test_weight, tests_weight, sum_weight}
use Rattle.filter.specs.declared.test.NumberRelation.{NumberRelation}
use Rattle.filter.specs.declared.test.NumberRelation.TheVariants as numbers
use Rattle.filter.specs.declared.test.NumberSource.{NumberSource}
use Rattle.filter.specs.declared.test.NumberSource.TheVariants as sources
use Rattle.filter.specs.declared.test.Scope.{Scope}
use Rattle.filter.specs.declared.test.Scope.TheVariants.{PathNamespace, ArgNamespace, ArgPath}
use Rattle.filter.specs.declared.test.Test.{Test}
use Rattle.filter.specs.declared.test.Test.TheVariants as tests
use Rattle.filter_compile.specs.EachTest.{Each, EachIn}
use Rattle.filter_compile.specs.Names.{name_in, has_name, with_one_name, with_name, with_names, with_all_names, names_of, slot_in}

-- ---- a name that is among others has one of their places

pub slot_below : (names : List (List ℕ)) (name : List ℕ) → has_name names name ≡ true → slot_in names name < length names
slot_below [] name is = absurd (true≢false (sym is))
slot_below (other ∷ names) name is = elim (cases_Bool (bytes_eq other name)) [
  | inl here ↦ rw here (omega arith)
  | inr there ↦ (let later : has_name names name ≡ true = (rw there at is) in let h = slot_below names name later in rw there (omega (arith, h)))
]

-- ---- names that are there stay

has_more : (names more : List (List ℕ)) (name : List ℕ) → has_name names name ≡ true → has_name (names ++ more) name ≡ true
has_more [] more name is = absurd (true≢false (sym is))
has_more (other ∷ names) more name is = elim (cases_Bool (bytes_eq other name)) [
  | inl here ↦ rw here refl
  | inr there ↦ (let later : has_name names name ≡ true = (rw there at is) in rw there (has_more names more name later))
]

same_name : (name : List ℕ) → bytes_eq name name ≡ true
same_name name = (bytes_eq-Decides name name).1 refl

has_last : (names : List (List ℕ)) (name : List ℕ) → has_name (names ++ name ∷ []) name ≡ true
has_last [] name = rw (same_name name) refl
has_last (other ∷ names) name = elim (cases_Bool (bytes_eq other name)) [
  | inl here ↦ rw here refl
  | inr there ↦ rw there (has_last names name)
]

stays_one : (names : List (List ℕ)) (more name : List ℕ) → has_name names name ≡ true → has_name (with_one_name names more) name ≡ true
stays_one names more name is = elim (cases_Bool (has_name names more)) [
  | inl old ↦ rw old is
  | inr new ↦ rw new (has_more names (more ∷ []) name is)
]

stays : (names : List (List ℕ)) (o : Option (List ℕ)) (name : List ℕ) → has_name names name ≡ true → has_name (with_name names o) name ≡ true
stays names None name is = is
stays names (Some more) name is = stays_one names more name is

mutual
  stays_in : (names : List (List ℕ)) (f : FilterTree) (name : List ℕ) → has_name names name ≡ true → has_name (with_names names f) name ≡ true
  stays_in names (test t) name is = stays names (name_in t) name is
  stays_in names (all fs) name is = stays_among names fs name is
  stays_in names (any fs) name is = stays_among names fs name is
  stays_in names (negation f) name is = stays_in names f name is

  stays_among : (names : List (List ℕ)) (fs : FilterTrees) (name : List ℕ) → has_name names name ≡ true → has_name (with_all_names names fs) name ≡ true
  stays_among names no_filters name is = is
  stays_among names (one_more f fs) name is = stays_among (with_names names f) fs name (stays_in names f name is)

-- ---- each name that a test asks for is there

-- the name that a test asks for is among these
abbrev pub AsksIn : List (List ℕ) → Test → Type 0
AsksIn names t = IfSome (name_in t) (λ name. has_name names name ≡ true)

-- these names are among those
abbrev Within : List (List ℕ) → List (List ℕ) → Type 0
Within names more = (name : List ℕ) → has_name names name ≡ true → has_name more name ≡ true

asks_more : (names more : List (List ℕ)) (o : Option (List ℕ)) → Within names more → IfSome o (λ name. has_name names name ≡ true) → IfSome o (λ name. has_name more name ≡ true)
asks_more names more None within is = tt
asks_more names more (Some name) within is = within name is

mutual
  each_more : (names more : List (List ℕ)) (f : FilterTree) → Within names more → Each (AsksIn names) f → Each (AsksIn more) f
  each_more names more (test t) within is = asks_more names more (name_in t) within is
  each_more names more (all fs) within is = among_more names more fs within is
  each_more names more (any fs) within is = among_more names more fs within is
  each_more names more (negation f) within is = each_more names more f within is

  among_more : (names more : List (List ℕ)) (fs : FilterTrees) → Within names more → EachIn (AsksIn names) fs → EachIn (AsksIn more) fs
  among_more names more no_filters within is = tt
  among_more names more (one_more f fs) within is = (each_more names more f within is.0, among_more names more fs within is.1)

asked : (names : List (List ℕ)) (o : Option (List ℕ)) → IfSome o (λ name. has_name (with_name names o) name ≡ true)
asked names None = tt
asked names (Some name) = elim (cases_Bool (has_name names name)) [
  | inl old ↦ rw old old
  | inr new ↦ rw new (has_last names name)
]

mutual
  each_asked : (names : List (List ℕ)) (f : FilterTree) → Each (AsksIn (with_names names f)) f
  each_asked names (test t) = asked names (name_in t)
  each_asked names (all fs) = among_asked names fs
  each_asked names (any fs) = among_asked names fs
  each_asked names (negation f) = each_asked names f

  among_asked : (names : List (List ℕ)) (fs : FilterTrees) → EachIn (AsksIn (with_all_names names fs)) fs
  among_asked names no_filters = tt
  among_asked names (one_more f fs) =
      let here = with_names names f in (
        each_more here (with_all_names here fs) f (λ name is. stays_among here fs name is) (each_asked names f),
        among_asked here fs,
      )

pub asks_its_names : (f : FilterTree) → Each (AsksIn (names_of f)) f
asks_its_names f = each_asked [] f

-- ---- each of them weighs 8

one_few : (names : List (List ℕ)) (name : List ℕ) → length (with_one_name names name) ≤ length names + 1
one_few names name = elim (cases_Bool (has_name names name)) [
  | inl old ↦ rw old (omega arith)
  | inr new ↦ rw new (omega (arith, length-append names (name ∷ [])))
]

name_few : (names : List (List ℕ)) (o : Option (List ℕ)) → length (with_name names o) ≤ length names + 1
name_few names None = omega arith
name_few names (Some name) = one_few names name

heavy_scope : (scope : Scope) (value : List ℕ) → 8 ≤ scope_weight scope value
heavy_scope PathNamespace value = omega arith
heavy_scope (ArgNamespace n) value = omega arith
heavy_scope (ArgPath n) value = omega arith

heavy_arg : (relation : NumberRelation) → 8 ≤ arg_weight relation
heavy_arg numbers.Less = omega arith
heavy_arg _ = omega arith

heavy_number : (source : NumberSource) (relation : NumberRelation) → 8 ≤ number_weight source relation
heavy_number (sources.Arg n) relation = heavy_arg relation
heavy_number _ relation = omega arith

heavy : (t : Test) → 8 ≤ test_weight t
heavy (tests.Text source relation value) = elim (cases_Bool (asks_owner source relation value)) [
  | inl asks ↦ rw asks (omega arith)
  | inr other ↦ rw other (omega arith)
]
heavy (tests.Within scope equality value) = heavy_scope scope value
heavy (tests.Number source relation value) = heavy_number source relation
heavy _ = omega arith

mutual
  names_few : (names : List (List ℕ)) (f : FilterTree) → 8 * length (with_names names f) ≤ 8 * length names + tests_weight f
  names_few names (test t) = omega (arith, name_few names (name_in t), heavy t)
  names_few names (all fs) = among_few names fs
  names_few names (any fs) = among_few names fs
  names_few names (negation f) = names_few names f

  among_few : (names : List (List ℕ)) (fs : FilterTrees) → 8 * length (with_all_names names fs) ≤ 8 * length names + sum_weight fs
  among_few names no_filters = omega arith
  among_few names (one_more f fs) = omega (arith, names_few names f, among_few (with_names names f) fs)

pub names_below : (f : FilterTree) → 8 * length (names_of f) ≤ tests_weight f
names_below f = omega (arith, names_few [] f)
