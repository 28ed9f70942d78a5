-- The jobs that are open, as a world keeps them (own).
use Rattle.std.specs.Prelude.{ℕ, Bool, List, Option}
use Rattle.std.specs.Ordering.{nat_cmp}
use Rattle.std.specs.BTreeMap.{is_at}
use Rattle.std.specs.Map.{lookup}

-- the recipients of a broadcast, and for each part whether it was asked for
pub record OpenJob : Type 0 where
  pub recipients : List ℕ
  pub parts_done : List Bool

-- the job of a number
abbrev pub job_of : ℕ → List (ℕ × OpenJob) → Option OpenJob
job_of number jobs = lookup (is_at (nat_cmp number)) jobs
