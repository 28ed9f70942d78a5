-- Inner: the texts round a comma.
use Rattle.std.specs.Prelude.{ℕ, List}
use Rattle.std.specs.Borrow.{Bor}

-- the texts round a comma
pub record Parts : Type 0 where
  pub front : List ℕ
  pub back : List ℕ

-- two texts of the code as parts
abbrev pub parts_of : Bor (List ℕ) × Bor (List ℕ) → Parts
parts_of texts = record { front = texts.0.now; back = texts.1.now }
