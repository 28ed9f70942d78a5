-- The types that are left, as their texts are lent one after another.
use Rattle.std.proofs.Common.{◌≡◌, ℕ, List, [], ◌∷◌, refl}
use Rattle.signature.specs.DataType.{DataType, DataTypes, no_types, one_more, slices, AllFit, TypeText}

-- the first of them, and those after it
pub record Lends (left : DataTypes) (lent : List ℕ) (after : List (List ℕ)) : Type 0 where
  pub first : DataType
  pub others : DataTypes
  pub is : left ≡ one_more first others
  pub text : TypeText first lent
  pub then : after ≡ slices others
  pub fit : AllFit 0 0 others

pub lends : (left : DataTypes) (lent : List ℕ) (after : List (List ℕ)) → slices left ≡ lent ∷ after → AllFit 0 0 left → Lends left lent after
lends no_types lent after e fit = absurd cc
lends (one_more t ts) lent after e fit = record { first = t; others = ts; is = refl; text = record { spelled = cc; fits = fit.0 }; then = cc; fit = fit.1 }

pub none_left : (left : DataTypes) → slices left ≡ [] → left ≡ no_types
none_left no_types e = refl
none_left (one_more t ts) e = absurd cc
