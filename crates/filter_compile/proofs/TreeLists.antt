-- What holds of all filters of a list holds of each.
use Rattle.std.proofs.Common.{◌≡◌, ℕ, zero, suc, ◌+◌, ◌<◌, ◌≤◌, List, [], ◌∷◌, length, map, ap, arith, slice_index_or}
use Rattle.filter.specs.FilterTree.{FilterTree, FilterTrees, test, all, any, negation, no_filters, one_more, list_of}
use Rattle.filter.specs.Filters.{tree_of}
use Rattle.filter.specs.Weights.{tests_weight, sum_weight}
use Rattle.filter.specs.declared.filter.Filter.{Filter}

light_at : (fs : List Filter) (i : ℕ) (f : Filter) → i < length fs → tests_weight (tree_of (slice_index_or fs i f)) ≤ sum_weight (list_of (map tree_of fs))
light_at [] i f inside = absurd (omega (arith, inside))
light_at (g ∷ fs) zero f inside = omega arith
light_at (g ∷ fs) (suc i) f inside = omega (arith, light_at fs i f (omega (arith, inside)))

-- how many filters a filter is made of, itself among them
abbrev mutual
  pub tree_size : FilterTree → ℕ
  tree_size (test t) = 1
  tree_size (all fs) = 1 + trees_size fs
  tree_size (any fs) = 1 + trees_size fs
  tree_size (negation f) = 1 + tree_size f

  pub trees_size : FilterTrees → ℕ
  trees_size no_filters = 0
  trees_size (one_more f fs) = 1 + tree_size f + trees_size fs

size_at : (fs : List Filter) (i : ℕ) (f : Filter) → i < length fs → tree_size (tree_of (slice_index_or fs i f)) < trees_size (list_of (map tree_of fs))
size_at [] i f inside = absurd (omega (arith, inside))
size_at (g ∷ fs) zero f inside = omega arith
size_at (g ∷ fs) (suc i) f inside = omega (arith, size_at fs i f (omega (arith, inside)))

pub smaller_one : (fs : List Filter) (i : ℕ) (f : Filter) → i < length fs → f ≡ slice_index_or fs i f → tree_size (tree_of f) < trees_size (list_of (map tree_of fs))
smaller_one fs i f inside is =
    let e : tree_size (tree_of f) ≡ tree_size (tree_of (slice_index_or fs i f)) = ap (λ (g : Filter). tree_size (tree_of g)) is in
    omega (arith, e, size_at fs i f inside)

-- a filter that stands at a place
pub light_one : (fs : List Filter) (i : ℕ) (f : Filter) → i < length fs → f ≡ slice_index_or fs i f → sum_weight (list_of (map tree_of fs)) ≤ 4096 → tests_weight (tree_of f) ≤ 4096
light_one fs i f inside is light =
    let e : tests_weight (tree_of f) ≡ tests_weight (tree_of (slice_index_or fs i f)) = ap (λ (g : Filter). tests_weight (tree_of g)) is in
    omega (arith, e, light_at fs i f inside, light)
